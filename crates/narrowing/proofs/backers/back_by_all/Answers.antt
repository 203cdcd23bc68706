use Rattle.narrowing.proofs.Prelude.{needs}
use Rattle.narrowing.proofs.Face.{backing_next}
use Rattle.narrowing.proofs.backers.back_by_all.Goals as goal

pub loop-rule-preserved : goal.loop-rule-preserved
loop-rule-preserved c = search (backing_next, c.in-Some.ensures, needs)
