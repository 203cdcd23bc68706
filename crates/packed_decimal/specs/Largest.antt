-- The largest measured reading of a run of bytes. Document 02, S-5: "return, for a run of bytes, the largest measured reading with its lowest
-- place, counted in readings from 0, or that none was measured".
use Rattle.std.specs.Prelude.{◌≡◌, Bool, cond, not, ◌||◌, List, ◌⊎◌, ℕ, zero, suc, ◌+◌, ◌*◌, ◌/◌, ◌^◌, ◌≤◌, ◌<◌, ltb, leb, length, get_or}
use Rattle.std.specs.Prelude.{Option, Some, None, Result}
use Rattle.packed_decimal.specs.PackedReading.{DIGITS, NOT_MEASURED, unpacked, IsReading, is_reading, says}
use Rattle.packed_decimal.specs.ReadingRefusals.{unless_bad}
use Rattle.packed_decimal.specs.declared.refusal.Refusal.{Refusal}
use Rattle.packed_decimal.specs.declared.largest.Placed.{Placed}

-- "in two bytes"
abbrev pub READING_BYTES : ℕ
READING_BYTES = 2

-- how many values a byte has
abbrev pub BYTE_BASE : ℕ
BYTE_BASE = 2 ^ 8

-- how many readings there are, a lone last byte among them
abbrev pub readings : List ℕ → ℕ
readings bytes = (length bytes + 1) / READING_BYTES

-- the word of reading number i: the first byte is the high one
abbrev pub reading_at : List ℕ → ℕ → ℕ
reading_at bytes i = get_or bytes (READING_BYTES * i) 0 * BYTE_BASE + get_or bytes (READING_BYTES * i + 1) 0

-- reading number i is bad: "a digit above 9 or a lone last byte"
pub record BadAt (bytes : List ℕ) (i : ℕ) : Type 0 where
  pub bad : (length bytes ≤ READING_BYTES * i + 1) ⊎ (¬ IsReading (reading_at bytes i))

-- the same, computed
unfoldable pub bad_at : List ℕ → ℕ → Bool
bad_at bytes i = leb (length bytes) (READING_BYTES * i + 1) || not (is_reading (reading_at bytes i))

-- with one reading more: it is found if it is measured and larger than what was found before it
abbrev pub larger : Option Placed → Option ℕ → ℕ → ℕ → Option Placed
larger found None word place = found
larger None (Some x) word place = Some (record { word = word; place = place })
larger (Some best) (Some x) word place = cond (ltb (unpacked DIGITS best.word) x) (Some (record { word = word; place = place })) (Some best)

-- the largest of the first n of some words
unfoldable pub largest_of : (ℕ → ℕ) → ℕ → Option Placed
largest_of words zero = None
largest_of words (suc n) = larger (largest_of words n) (says (words n)) (words n) n

-- the answer for a run of bytes
unfoldable pub largest_in : List ℕ → Result (Option Placed) Refusal
largest_in bytes = unless_bad (readings bytes) (bad_at bytes) (largest_of (reading_at bytes) (readings bytes))

-- what that means: it is a measured reading of the run at that place, no measured reading is larger, and none as large stands before it
pub record IsLargest (words : ℕ → ℕ) (n word place : ℕ) : Type 0 where
  pub within : place < n
  pub here : words place ≡ word
  pub measured : ¬ (word ≡ NOT_MEASURED)
  pub none_larger : (i : ℕ) → i < n → ¬ (words i ≡ NOT_MEASURED) → unpacked DIGITS (words i) ≤ unpacked DIGITS word
  pub none_before : (i : ℕ) → i < place → ¬ (words i ≡ NOT_MEASURED) → unpacked DIGITS (words i) < unpacked DIGITS word

-- what was found is the largest; or "that none was measured", and so it is
pub data LargestRight (words : ℕ → ℕ) (n : ℕ) : Option Placed → Type 0 where
  largest : {best : Placed} → IsLargest words n best.word best.place → LargestRight words n (Some best)
  none_measured : ((i : ℕ) → i < n → words i ≡ NOT_MEASURED) → LargestRight words n None
