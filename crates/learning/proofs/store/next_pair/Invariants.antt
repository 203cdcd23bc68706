-- The pairs that were passed over are no news.
use Rattle.learning.proofs.Face.{Passing}
use Rattle.learning.proofs.store.next_pair.Given as goal

abbrev pub invariant-loop-i : goal.invariant-loop-i
invariant-loop-i l = Passing l.fn.memory l.fn.from l.fn.s l.i
