-- The cut is empty.
use Rattle.atoms.proofs.Prelude.{ap, ℕ, eqb, ◌∩◌, apart}
use Rattle.atoms.proofs.are_apart.Goals as goal

pub returns : goal.returns
unfolding apart ◌∩◌
returns c = ap (λ (x : ℕ). eqb x 0) c.cut.ensures
