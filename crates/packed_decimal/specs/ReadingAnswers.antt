-- The answers for one reading and for two. Document 02, S-5.
use Rattle.std.specs.Prelude.{Bool, true, false, [], ◌∷◌, ℕ, ◌+◌, ◌/◌, ◌%◌, ltb, Option, Some, None, Result, Ok, Err}
use Rattle.std.specs.declared.cmp.Ordering.{Ordering}
use Rattle.std.specs.declared.cmp.Ordering.TheVariants.{Less, Equal, Greater}
use Rattle.packed_decimal.specs.PackedReading.{DIGITS, MODULUS, NOT_MEASURED, packed, says}
use Rattle.packed_decimal.specs.ReadingRefusals.{unless_bad_of}
use Rattle.packed_decimal.specs.declared.refusal.Refusal.{Refusal}
use Rattle.packed_decimal.specs.declared.refusal.Refusal.TheVariants.{LargeNumber}
use Rattle.packed_decimal.specs.declared.sum.Sum.{Sum}

-- "Convert one reading to a whole number"
unfoldable pub number_of : ℕ → Result (Option ℕ) Refusal
number_of word = unless_bad_of (word ∷ []) (says word)

-- "and back (not measured stays so)"
unfoldable pub reading_of : Option ℕ → Result ℕ Refusal
reading_of None = Ok NOT_MEASURED
reading_of (Some x) = elim (ltb x MODULUS) [ true ↦ Ok (packed DIGITS x) | false ↦ Err LargeNumber ]

-- "add two modulo 10,000 into a reading, with a carry of 1 past 9999"; "With a reading not measured, a sum (carry 0) .. is not measured"
abbrev pub sum_of : Option ℕ → Option ℕ → Sum
sum_of (Some x) (Some y) = record { reading = packed DIGITS ((x + y) % MODULUS); carry = (x + y) / MODULUS }
sum_of (Some x) None = record { reading = NOT_MEASURED; carry = 0 }
sum_of None r = record { reading = NOT_MEASURED; carry = 0 }

-- the sum of two words, errors first
unfoldable pub added_of : ℕ → ℕ → Result Sum Refusal
added_of a b = unless_bad_of (a ∷ b ∷ []) (sum_of (says a) (says b))

-- "(below, equal, above)", from whether it is below and whether it is above
abbrev pub order_by : Bool → Bool → Ordering
order_by true above = Less
order_by false true = Greater
order_by false false = Equal

-- "compare one with a limit that is itself a reading"; "With a reading not measured, .. a comparison is not measured"
abbrev pub reading_order : Option ℕ → Option ℕ → Option Ordering
reading_order (Some x) (Some y) = Some (order_by (ltb x y) (ltb y x))
reading_order (Some x) None = None
reading_order None r = None

-- a word against its limit, errors first
unfoldable pub compared_of : ℕ → ℕ → Result (Option Ordering) Refusal
compared_of word limit = unless_bad_of (word ∷ limit ∷ []) (reading_order (says word) (says limit))
