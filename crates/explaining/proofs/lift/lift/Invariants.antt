-- The loop carries that the pair so far is lifted from the first.
use Rattle.explaining.proofs.Prelude.{Lifted, WiredIn}
use Rattle.explaining.proofs.lift.lift.Given as goal

abbrev pub invariant-loop-i : goal.invariant-loop-i
invariant-loop-i l = Lifted (WiredIn l.fn.cx) l.initial.r l.initial.memory l.memory l.r
