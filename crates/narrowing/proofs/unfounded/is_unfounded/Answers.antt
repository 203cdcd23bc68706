use Rattle.narrowing.proofs.Prelude.{taking_more, needs}
use Rattle.narrowing.proofs.Face.{spared}
use Rattle.narrowing.proofs.unfounded.is_unfounded.Goals as goal

pub loop-rule-preserved : goal.loop-rule-preserved
loop-rule-preserved c = search (taking_more, spared, c.in-Some.ensures, needs)
