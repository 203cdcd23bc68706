use Rattle.explaining.proofs.Prelude.{lifted_start, lifted_learn, lifted_over, lifted_after, needs}
use Rattle.explaining.proofs.lift.lift.Goals as goal

pub returns-then-stretch-gt-STEPS : goal.returns-then-stretch-gt-STEPS
returns-then-stretch-gt-STEPS c = lifted_start

pub loop-i-init : goal.loop-i-init
loop-i-init c = lifted_start

pub loop-i-preserved : goal.loop-i-preserved
loop-i-preserved c = lifted_learn (lifted_over c.loop-i.invariant c.lift_over-r.ensures) c.learn_once-learnt-in-loop-i.ensures.keeps

pub returns : goal.returns
returns c = search (lifted_after, needs)
