-- What a host is handed back of readings (document 02, S-5): each answer as one number, and its own lent words. A reading is 16 bits, its first
-- byte the high one; not measured is 65,535. A refusal is its code, with a spot of 65,535 for every place from there on.
use Rattle.std.specs.Prelude.{◌≡◌, true, false, List, [], ◌∷◌, ◌⊎◌, ℕ, ◌+◌, ◌*◌, ◌≤◌, ◌<◌, eqb, Option, Some, None, Result, Ok, Err}
use Rattle.std.specs.declared.cmp.Ordering.{Ordering}
use Rattle.std.specs.declared.cmp.Ordering.TheVariants.{Less, Equal, Greater}
use Rattle.plan.specs.Faults.{CODE_STEP, code_of}
use Rattle.atoms.specs.Collected.{Least}
use Rattle.packed_decimal.specs.PackedReading.{MODULUS, NOT_MEASURED, IsReading}
use Rattle.packed_decimal.specs.ReadingRefusals.{refusal_number, refusal_spot}
use Rattle.packed_decimal.specs.ReadingAnswers.{number_of, reading_of, added_of, compared_of}
use Rattle.packed_decimal.specs.Largest.{readings, reading_at, BadAt, largest_in, LargestRight}
use Rattle.packed_decimal.specs.ReadingPromises.{SaysNumber, RefusesBad, IsSum}
use Rattle.packed_decimal.specs.declared.refusal.Refusal.{Refusal}
use Rattle.packed_decimal.specs.declared.refusal.Refusal.TheVariants.{BadReading, LargeNumber}
use Rattle.packed_decimal.specs.declared.sum.Sum.{Sum}
use Rattle.packed_decimal.specs.declared.largest.Placed.{Placed}
use Rattle.exports.specs.HandedOut.{copied}

-- a refusal: 65,536 times its number, and its spot
abbrev pub refused_code : Refusal → ℕ
refused_code r = code_of (refusal_number r) (refusal_spot r)

-- what a reading says
abbrev pub said_code : Option ℕ → ℕ
said_code (Some x) = x
said_code None = NOT_MEASURED

abbrev pub number_code : Result (Option ℕ) Refusal → ℕ
number_code (Ok said) = said_code said
number_code (Err r) = refused_code r

-- what a host asks to be said: 65,535 is not measured
unfoldable pub reading_asked : ℕ → Option ℕ
reading_asked number = elim (eqb number NOT_MEASURED) [ true ↦ None | false ↦ Some number ]

abbrev pub reading_code : Result ℕ Refusal → ℕ
reading_code (Ok word) = word
reading_code (Err r) = refused_code r

-- a sum: "65,536 times the carry plus the reading"
abbrev pub sum_code : Sum → ℕ
sum_code sum = CODE_STEP * sum.carry + sum.reading

abbrev pub added_code : Result Sum Refusal → ℕ
added_code (Ok sum) = sum_code sum
added_code (Err r) = refused_code r

-- a comparison: "0 below, 1 equal, 2 above"
abbrev pub order_code : Option Ordering → ℕ
order_code (Some Less) = 0
order_code (Some Equal) = 1
order_code (Some Greater) = 2
order_code None = NOT_MEASURED

abbrev pub compared_code : Result (Option Ordering) Refusal → ℕ
compared_code (Ok order) = order_code order
compared_code (Err r) = refused_code r

-- the largest: "1 with the reading in word 0 and its place in word 1 as far as there is room, 0 if none was measured"
abbrev pub found_code : Option Placed → ℕ
found_code (Some largest) = 1
found_code None = 0

abbrev pub found_words : Option Placed → List ℕ → List ℕ
found_words (Some largest) found = copied (largest.word ∷ largest.place ∷ []) found
found_words None found = found

abbrev pub largest_code : Result (Option Placed) Refusal → ℕ
largest_code (Ok what) = found_code what
largest_code (Err r) = refused_code r

-- "`found` untouched otherwise"
abbrev pub largest_words : Result (Option Placed) Refusal → List ℕ → List ℕ
largest_words (Ok what) found = found_words what found
largest_words (Err r) found = found

-- ---- what each function hands back: the code by the definition, and the same in the words of S-5

-- the whole number that a reading says
pub record NumberHanded (reading r : ℕ) : Type 0 where
  pub code_is : r ≡ number_code (number_of reading)
  pub refused : ¬ IsReading reading → r ≡ refused_code (BadReading 0)
  pub unmeasured : reading ≡ NOT_MEASURED → r ≡ NOT_MEASURED
  pub measured : (x : ℕ) → SaysNumber reading x → r ≡ x

-- the way back
pub record ReadingHanded (number r : ℕ) : Type 0 where
  pub code_is : r ≡ reading_code (reading_of (reading_asked number))
  pub unmeasured : number ≡ NOT_MEASURED → r ≡ NOT_MEASURED
  pub refused : ¬ (number ≡ NOT_MEASURED) → MODULUS ≤ number → r ≡ refused_code LargeNumber
  pub measured : number < MODULUS → SaysNumber r number

-- a sum
pub record SumHanded (a b r : ℕ) : Type 0 where
  pub code_is : r ≡ added_code (added_of a b)
  pub refuses : RefusesBad a b refused_code r
  pub unmeasured : IsReading a → IsReading b → (a ≡ NOT_MEASURED) ⊎ (b ≡ NOT_MEASURED) → r ≡ NOT_MEASURED
  pub measured : (x y : ℕ) → SaysNumber a x → SaysNumber b y → (s : Sum) × (r ≡ sum_code s) × IsSum x y s

-- a comparison
pub record CompareHanded (reading limit r : ℕ) : Type 0 where
  pub code_is : r ≡ compared_code (compared_of reading limit)
  pub refuses : RefusesBad reading limit refused_code r
  pub unmeasured : IsReading reading → IsReading limit → (reading ≡ NOT_MEASURED) ⊎ (limit ≡ NOT_MEASURED) → r ≡ NOT_MEASURED
  pub below : (x y : ℕ) → SaysNumber reading x → SaysNumber limit y → x < y → r ≡ 0
  pub equal : (x y : ℕ) → SaysNumber reading x → SaysNumber limit y → x ≡ y → r ≡ 1
  pub above : (x y : ℕ) → SaysNumber reading x → SaysNumber limit y → y < x → r ≡ 2

-- the largest of a run, with every word of the lent area
pub record LargestHanded (bytes found found' : List ℕ) (r : ℕ) : Type 0 where
  pub code_is : r ≡ largest_code (largest_in bytes)
  pub found_is : found' ≡ largest_words (largest_in bytes) found
  pub refused : (i : ℕ) → i < readings bytes → Least (BadAt bytes) i → (r ≡ refused_code (BadReading i)) × (found' ≡ found)
  pub sought : ((i : ℕ) → i < readings bytes → ¬ BadAt bytes i)
      → (what : Option Placed) × LargestRight (reading_at bytes) (readings bytes) what × (r ≡ found_code what) × (found' ≡ found_words what found)
