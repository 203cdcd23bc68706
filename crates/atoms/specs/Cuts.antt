-- Positions cut to the atoms that show (document 02, S-11).
use Rattle.std.specs.Prelude.{◌≡◌, List, [], ◌∷◌, ℕ}
use Rattle.atoms.specs.Word.{◌∩◌}
use Rattle.atoms.specs.Rising.{insert_into}

-- "cut to shown atoms": x is what shows of a wanted position
pub record CutOf (shown : ℕ) (Wanted : ℕ → Type 0) (x : ℕ) : Type 0 where
  pub whole : ℕ
  pub wanted : Wanted whole
  pub is : x ≡ whole ∩ shown

-- "once each and rising, the answer sets cut to shown atoms"
unfoldable pub cut_list : ℕ → List ℕ → List ℕ
cut_list shown [] = []
cut_list shown (M ∷ Ms) = insert_into (M ∩ shown) (cut_list shown Ms)
