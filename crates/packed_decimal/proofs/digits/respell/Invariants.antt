-- The digits passed so far stand in the result, and those that are left make the rest of it (Respelling).
use Rattle.packed_decimal.proofs.Prelude.{DIGITS}
use Rattle.packed_decimal.proofs.Face.{Respelling}
use Rattle.packed_decimal.proofs.digits.respell.Given as goal

abbrev pub invariant-loop-digit : goal.invariant-loop-digit
invariant-loop-digit l = Respelling DIGITS l.from l.to l.x l._digit l.rest l.place l.result
