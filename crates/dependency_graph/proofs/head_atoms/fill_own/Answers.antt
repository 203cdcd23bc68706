use Rattle.dependency_graph.proofs.Prelude.{needs, own, units_of}
use Rattle.dependency_graph.proofs.Face.{filling_start, filling_more, filling_end}
use Rattle.dependency_graph.proofs.head_atoms.fill_own.Goals as goal

pub loop-u-init : goal.loop-u-init
loop-u-init c = search (filling_start, needs)

pub loop-u-preserved : goal.loop-u-preserved
unfolding own units_of
loop-u-preserved c = search (filling_more, needs)

pub returns : goal.returns
returns c = search (filling_end, needs)
