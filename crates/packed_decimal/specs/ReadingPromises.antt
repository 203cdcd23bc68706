-- What each function promises: its answer is the definition's, and the same said in the words of document 02, S-5, without what computes it.
use Rattle.std.specs.Prelude.{◌≡◌, List, ◌⊎◌, ℕ, ◌+◌, ◌*◌, ◌^◌, ◌≤◌, ◌<◌, Option, Some, None, Result, Ok, Err}
use Rattle.std.specs.declared.cmp.Ordering.{Ordering}
use Rattle.std.specs.declared.cmp.Ordering.TheVariants.{Less, Equal, Greater}
use Rattle.atoms.specs.Collected.{Least}
use Rattle.packed_decimal.specs.PackedReading.{DIGITS, DIGIT_VALUES, MODULUS, NOT_MEASURED, unpacked, Decimal, IsReading}
use Rattle.packed_decimal.specs.ReadingAnswers.{number_of, reading_of, added_of, compared_of}
use Rattle.packed_decimal.specs.Largest.{readings, reading_at, BadAt, largest_in, LargestRight}
use Rattle.packed_decimal.specs.declared.refusal.Refusal.{Refusal}
use Rattle.packed_decimal.specs.declared.refusal.Refusal.TheVariants.{BadReading, LargeNumber}
use Rattle.packed_decimal.specs.declared.sum.Sum.{Sum}
use Rattle.packed_decimal.specs.declared.largest.Placed.{Placed}

-- a word that keeps the digit rule and says x
pub record SaysNumber (word x : ℕ) : Type 0 where
  pub fits : word < DIGIT_VALUES ^ DIGITS
  pub rule : Decimal DIGITS word
  pub says_is : unpacked DIGITS word ≡ x

-- "Convert one reading to a whole number"
pub record Numbered (word : ℕ) (r : Result (Option ℕ) Refusal) : Type 0 where
  pub is : r ≡ number_of word
  pub bad : ¬ IsReading word → r ≡ Err (BadReading 0)
  pub unmeasured : word ≡ NOT_MEASURED → r ≡ Ok None
  pub measured : (x : ℕ) → SaysNumber word x → r ≡ Ok (Some x)

-- "and back (not measured stays so)", "or a whole number above 9999 to convert back, spot 0"
pub record Repacked (number : Option ℕ) (r : Result ℕ Refusal) : Type 0 where
  pub is : r ≡ reading_of number
  pub unmeasured : number ≡ None → r ≡ Ok NOT_MEASURED
  pub large : (x : ℕ) → number ≡ Some x → MODULUS ≤ x → r ≡ Err LargeNumber
  pub measured : (x : ℕ) → number ≡ Some x → x < MODULUS → (word : ℕ) × (r ≡ Ok word) × SaysNumber word x

-- "spot the number from 0 of the first such reading among those given", of two
pub record RefusesBad {A : Type 0} (a b : ℕ) (refused : Refusal → A) (r : A) : Type 0 where
  pub first : ¬ IsReading a → r ≡ refused (BadReading 0)
  pub second : IsReading a → ¬ IsReading b → r ≡ refused (BadReading 1)

-- a sum of x and y: what its reading says and 10,000 for its carry
pub record IsSum (x y : ℕ) (s : Sum) : Type 0 where
  pub rest : ℕ
  pub says_rest : SaysNumber s.reading rest
  pub total : x + y ≡ MODULUS * s.carry + rest

-- "add two modulo 10,000 into a reading, with a carry of 1 past 9999"; "With a reading not measured, a sum (carry 0) .. is not measured"
pub record ReadingsAdded (a b : ℕ) (r : Result Sum Refusal) : Type 0 where
  pub is : r ≡ added_of a b
  pub refuses : RefusesBad a b Err r
  pub unmeasured : IsReading a → IsReading b → (a ≡ NOT_MEASURED) ⊎ (b ≡ NOT_MEASURED)
      → r ≡ Ok (record { reading = NOT_MEASURED; carry = 0 })
  pub measured : (x y : ℕ) → SaysNumber a x → SaysNumber b y → (s : Sum) × (r ≡ Ok s) × IsSum x y s

-- "compare one with a limit that is itself a reading (below, equal, above)"; "With a reading not measured, .. a comparison is not measured"
pub record HeldAgainst (word limit : ℕ) (r : Result (Option Ordering) Refusal) : Type 0 where
  pub is : r ≡ compared_of word limit
  pub refuses : RefusesBad word limit Err r
  pub unmeasured : IsReading word → IsReading limit → (word ≡ NOT_MEASURED) ⊎ (limit ≡ NOT_MEASURED) → r ≡ Ok None
  pub below : (x y : ℕ) → SaysNumber word x → SaysNumber limit y → x < y → r ≡ Ok (Some Less)
  pub equal : (x y : ℕ) → SaysNumber word x → SaysNumber limit y → x ≡ y → r ≡ Ok (Some Equal)
  pub above : (x y : ℕ) → SaysNumber word x → SaysNumber limit y → y < x → r ≡ Ok (Some Greater)

-- "the largest measured reading with its lowest place, .. or that none was measured"
pub record LargestSought (bytes : List ℕ) (r : Result (Option Placed) Refusal) : Type 0 where
  pub is : r ≡ largest_in bytes
  pub refused : (i : ℕ) → i < readings bytes → Least (BadAt bytes) i → r ≡ Err (BadReading i)
  pub found : ((i : ℕ) → i < readings bytes → ¬ BadAt bytes i)
      → (what : Option Placed) × (r ≡ Ok what) × LargestRight (reading_at bytes) (readings bytes) what
