-- The loop carries what the claim tells.
use Rattle.explaining.proofs.Prelude.{WiredIn, Told}
use Rattle.explaining.proofs.reasons.shrink.Given as goal

abbrev pub invariant-loop-i : goal.invariant-loop-i
invariant-loop-i l = Told (WiredIn l.fn.cx) l.fn.memory l.fn.claim.goal l.c
