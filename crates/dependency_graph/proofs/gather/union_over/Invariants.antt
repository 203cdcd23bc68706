-- What the numbers taken so far make (Gathered).
use Rattle.dependency_graph.proofs.GatheredNumbers.{Joining}
use Rattle.dependency_graph.proofs.gather.union_over.Given as goal

abbrev pub invariant-loop-i : goal.invariant-loop-i
invariant-loop-i g l = Joining (goal.F-post g l.fn.word) l.fn.which l.all l.i-iterator.rest
