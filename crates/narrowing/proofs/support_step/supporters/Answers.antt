use Rattle.narrowing.proofs.Prelude.{needs}
use Rattle.narrowing.proofs.Face.{supporters_next, supporters_from}
use Rattle.narrowing.proofs.support_step.supporters.Goals as goal

pub loop-rule-preserved : goal.loop-rule-preserved
loop-rule-preserved c = search (supporters_next, c.in-Some.ensures, needs)

pub returns-then-may_support : goal.returns-then-may_support
returns-then-may_support c = search (supporters_from, c.in-Some.ensures, needs)
