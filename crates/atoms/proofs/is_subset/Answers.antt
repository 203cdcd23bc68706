-- Every atom of a is in the cut.
use Rattle.atoms.proofs.Prelude.{ap, ℕ, eqb, ◌∩◌, subset}
use Rattle.atoms.proofs.is_subset.Goals as goal

pub returns : goal.returns
unfolding subset ◌∩◌
returns c = ap (λ (x : ℕ). eqb x c.args.a) c.cut.ensures
