-- Inner: units whose head atoms cover a word.
use Rattle.std.specs.Prelude.{List, ℕ, get_or}
use Rattle.atoms.specs.Word.{Has, ◌⊆◌}

-- all atoms of the word are among the head atoms of one of the units
pub record Covered (heads : List ℕ) (units word : ℕ) : Type 0 where
  pub by : ℕ
  pub unit : Has units by
  pub within : word ⊆ get_or heads by 0
