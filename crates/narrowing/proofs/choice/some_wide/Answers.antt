use Rattle.narrowing.proofs.Prelude.{needs, taking_more}
use Rattle.narrowing.proofs.Face.{not_wide}
use Rattle.narrowing.proofs.choice.some_wide.Goals as goal

pub loop-rule-preserved : goal.loop-rule-preserved
loop-rule-preserved c = search (taking_more, not_wide, c.in-Some.ensures, needs)
