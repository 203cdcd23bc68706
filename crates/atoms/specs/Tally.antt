-- Counts of all atoms side by side, in binary places: word k of the places has the atoms whose count has place k.
use Rattle.std.specs.Prelude.{◌≡◌, List, [], ◌∷◌, true, false, ℕ, ◌+◌, ◌*◌, ◌%◌, ◌^◌, ◌≤◌, eqb, length}
use Rattle.atoms.specs.Word.{digit, Has, ◌∩◌}
use Rattle.atoms.specs.Collected.{Collects}

-- the count of atom i
unfoldable pub tallied : List ℕ → ℕ → ℕ
tallied [] i = 0
tallied (p ∷ ps) i = digit p i + 2 * tallied ps i

-- each atom of the word is counted once more; what is carried beyond the last place is lost
pub record Tallied (word : ℕ) (before after : List ℕ) : Type 0 where
  pub same_length : length after ≡ length before
  pub counts : (i : ℕ) → tallied after i ≡ (tallied before i + digit word i) % 2 ^ length before

-- the atoms in both, or those of the first where none is
unfoldable pub preferred : ℕ → ℕ → ℕ
preferred word better = elim (eqb (word ∩ better) 0) [ true ↦ word | false ↦ word ∩ better ]

-- atom i is in the word, and none of it has a higher count
pub record HighestCount (places : List ℕ) (word i : ℕ) : Type 0 where
  pub here : Has word i
  pub highest : (j : ℕ) → Has word j → tallied places j ≤ tallied places i

-- the atoms of the word with the highest count
abbrev pub MostCounted : List ℕ → ℕ → ℕ → Type 0
MostCounted places word r = Collects (HighestCount places word) r
