use Rattle.dependency_graph.proofs.Prelude.{needs, each_of}
use Rattle.dependency_graph.proofs.GatheredNumbers.{holding_start, holding_one, holding_next, holding_end}
use Rattle.dependency_graph.proofs.gather.where_holds.Goals as goal

pub loop-i-init : goal.loop-i-init
loop-i-init g c = holding_start (each_of c.into_iter-i-iterator.ensures.into_iter_gives c.each-i-items.ensures)

pub test-requires : goal.test-requires
test-requires g c = c.requires _ (holding_one c.loop-i.invariant c.in-Some.ensures.steps.lowest)

pub loop-i-preserved : goal.loop-i-preserved
loop-i-preserved g c = search (holding_next, c.in-Some.ensures, needs)

pub returns : goal.returns
returns g c = search (holding_end, needs)
