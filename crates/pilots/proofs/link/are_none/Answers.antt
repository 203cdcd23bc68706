use Rattle.pilots.proofs.Prelude.{arith, needs}
use Rattle.pilots.proofs.Face.{none_start, none_next, none_end}
use Rattle.pilots.proofs.link.are_none.Goals as goal

pub loop-t-init : goal.loop-t-init
loop-t-init c = none_start _

pub loop-t-preserved : goal.loop-t-preserved
loop-t-preserved c = search (none_next, needs)

pub returns : goal.returns
returns c = none_end c.args.pilots.now c.loop-t.t c.loop-t.all c.loop-t.invariant (omega arith)
