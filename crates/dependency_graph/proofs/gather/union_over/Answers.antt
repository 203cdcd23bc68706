use Rattle.dependency_graph.proofs.Prelude.{needs, each_of}
use Rattle.dependency_graph.proofs.GatheredNumbers.{joining_start, joining_one, joining_next, joining_end}
use Rattle.dependency_graph.proofs.gather.union_over.Goals as goal

pub loop-i-init : goal.loop-i-init
loop-i-init g c = joining_start (each_of c.into_iter-i-iterator.ensures.into_iter_gives c.each-i-items.ensures)

pub word-requires : goal.word-requires
word-requires g c = c.requires _ (joining_one c.loop-i.invariant c.in-Some.ensures.steps.lowest)

pub loop-i-preserved : goal.loop-i-preserved
loop-i-preserved g c = search (joining_next, c.in-Some.ensures, needs)

pub returns : goal.returns
returns g c = search (joining_end, needs)
