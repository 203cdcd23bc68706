use Rattle.questions.proofs.Prelude.{needs}
use Rattle.questions.proofs.Face.{holding_start, holding_fits, holding_more}
use Rattle.questions.proofs.counter.hold.Goals as goal

pub loop-i-init : goal.loop-i-init
loop-i-init c = search (holding_start, needs)

pub overflow_add-counts : goal.overflow_add-counts
overflow_add-counts c = search (holding_fits, needs)

pub loop-i-preserved : goal.loop-i-preserved
loop-i-preserved c = search (holding_more, needs)
