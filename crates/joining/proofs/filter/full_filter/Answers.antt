use Rattle.joining.proofs.Prelude.{needs}
use Rattle.joining.proofs.Face.{filling_next, filling_end}
use Rattle.joining.proofs.filter.full_filter.Goals as goal

pub loop-i-preserved : goal.loop-i-preserved
loop-i-preserved c = search (filling_next, needs)

pub returns : goal.returns
returns c = search (filling_end, needs)
