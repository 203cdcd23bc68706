use Rattle.dependency_graph.proofs.Prelude.{needs}
use Rattle.dependency_graph.proofs.Face.{filling_start, unreached, filling_more, filling_end}
use Rattle.dependency_graph.proofs.reach.open_middle.Goals as goal

pub loop-u-init : goal.loop-u-init
loop-u-init c = search (filling_start, needs)

pub loop-u-preserved : goal.loop-u-preserved
loop-u-preserved c = filling_more c.loop-u.invariant c.loop-u-test.true (rw (unreached c.loop-u.invariant) at c.through.ensures)

pub returns : goal.returns
returns c = search (filling_end, needs)
