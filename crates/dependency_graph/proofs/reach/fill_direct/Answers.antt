use Rattle.dependency_graph.proofs.Prelude.{needs, reach_via, units_of}
use Rattle.dependency_graph.proofs.Face.{filling_start, filling_more, filling_end}
use Rattle.dependency_graph.proofs.reach.fill_direct.Goals as goal

pub loop-u-init : goal.loop-u-init
loop-u-init c = search (filling_start, needs)

pub loop-u-preserved : goal.loop-u-preserved
unfolding reach_via units_of
loop-u-preserved c =
    filling_more c.loop-u.invariant c.loop-u-test.true
    (rw c.first-all.ensures at c.cut.ensures)

pub returns : goal.returns
returns c = search (filling_end, needs)
