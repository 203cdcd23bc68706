-- At first the table has no rule.
use Rattle.narrowing.proofs.Prelude.{refl, ATOMS}
use Rattle.narrowing.proofs.Face.{zeros_at, backers_of_lem}
use Rattle.narrowing.proofs.backers.backers.Goals as goal

pub returns : goal.returns
returns c = backers_of_lem refl (zeros_at ATOMS) c.back_by_all.ensures
