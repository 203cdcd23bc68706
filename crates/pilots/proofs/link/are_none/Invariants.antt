-- The loop gathers the pilots.
use Rattle.pilots.proofs.Face.{NoneBelow}
use Rattle.pilots.proofs.link.are_none.Given as goal

abbrev pub invariant-loop-t : goal.invariant-loop-t
invariant-loop-t l = NoneBelow l.fn.pilots l.t l.all
