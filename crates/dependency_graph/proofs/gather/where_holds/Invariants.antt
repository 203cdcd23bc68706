-- What the numbers taken so far make (Gathered).
use Rattle.dependency_graph.proofs.GatheredNumbers.{Holding}
use Rattle.dependency_graph.proofs.gather.where_holds.Given as goal

abbrev pub invariant-loop-i : goal.invariant-loop-i
invariant-loop-i g l = Holding (goal.F-post g l.fn.test) l.fn.which l.found l.i-iterator.rest
