use Rattle.dependency_graph.proofs.Prelude.{arith, needs, units_of}
use Rattle.dependency_graph.proofs.Face.{reach_next, reach_filled, filled_itself}
use Rattle.dependency_graph.proofs.reach.fill_reach.Goals as goal

pub loop-k-init : goal.loop-k-init
loop-k-init c = search (filled_itself, needs)

pub loop-k-preserved : goal.loop-k-preserved
loop-k-preserved c = (search (reach_next, needs), omega arith)

pub returns : goal.returns
unfolding units_of
returns c = search (reach_filled, needs)
