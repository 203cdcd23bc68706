-- The loop carries that the pilots so far are distinct.
use Rattle.searching.proofs.Face.{DistinctBelow}
use Rattle.searching.proofs.spare.are_distinct.Given as goal

abbrev pub invariant-loop-pilot : goal.invariant-loop-pilot
invariant-loop-pilot l = DistinctBelow l.fn.pilots l.all l.pilot-index
