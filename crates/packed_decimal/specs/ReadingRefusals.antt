-- The refusal of readings. Document 02, S-5: "Errors, tried first: 20, a digit above 9 or a lone last byte, spot the number from 0 of the
-- first such reading among those given, or a whole number above 9999 to convert back, spot 0".
use Rattle.std.specs.Prelude.{Bool, true, false, not, List, ℕ, ltb, length, get_or, Result, Ok, Err}
use Rattle.atoms.specs.Collected.{lowest}
use Rattle.packed_decimal.specs.PackedReading.{is_reading}
use Rattle.packed_decimal.specs.declared.refusal.Refusal.{Refusal}
use Rattle.packed_decimal.specs.declared.refusal.Refusal.TheVariants.{BadReading, LargeNumber}

-- "20", for either
abbrev pub refusal_number : Refusal → ℕ
refusal_number refusal = 20

-- "spot the number from 0 ..", "or .. spot 0"
abbrev pub refusal_spot : Refusal → ℕ
refusal_spot (BadReading place) = place
refusal_spot LargeNumber = 0

-- "Errors, tried first": the answer, unless one of n readings is bad; then the refusal for the first of them
unfoldable pub unless_bad : {A : Type 0} → ℕ → (ℕ → Bool) → A → Result A Refusal
unless_bad n bad answer =
    elim (ltb (lowest n bad) n) [ true ↦ Err (BadReading (lowest n bad)) | false ↦ Ok answer ]

-- whether number i of some words is a bad reading
abbrev pub bad_of : List ℕ → ℕ → Bool
bad_of words i = not (is_reading (get_or words i 0))

-- the same for whole readings, given as words
abbrev pub unless_bad_of : {A : Type 0} → List ℕ → A → Result A Refusal
unless_bad_of words answer = unless_bad (length words) (bad_of words) answer
