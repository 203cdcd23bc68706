-- The atoms that positions have in common. Document 02, S-2: "the atoms up in all positions and those up in some".
use Rattle.std.specs.Prelude.{List, ℕ, ◌<◌, length, get_or}
use Rattle.atoms.specs.Word.{ATOMS, Has}
use Rattle.atoms.specs.Collected.{Collects}
use Rattle.questions.specs.declared.common.Common.{Common}

-- the atom is up in all positions
pub record InAll (list : List ℕ) (atom : ℕ) : Type 0 where
  pub below : atom < ATOMS
  pub in_each : (at : ℕ) → at < length list → Has (get_or list at 0) atom

-- the atom is up in some position
pub record InSome (list : List ℕ) (atom : ℕ) : Type 0 where
  pub at : ℕ
  pub within : at < length list
  pub has_it : Has (get_or list at 0) atom

-- an atom is in the first word exactly if it is up in all positions, in the second exactly if in some
pub record CommonAtoms (list : List ℕ) (r : Common) : Type 0 where
  pub all_is : Collects (InAll list) r.all
  pub some_is : Collects (InSome list) r.some
