-- The loop carries what the claim tells.
use Rattle.explaining.proofs.Prelude.{WiredIn, Told}
use Rattle.explaining.proofs.reasons.spare_each.Given as goal

abbrev pub invariant-loop-atom : goal.invariant-loop-atom
invariant-loop-atom l = Told (WiredIn l.fn.cx) l.fn.memory l.fn.claim.goal l.c
