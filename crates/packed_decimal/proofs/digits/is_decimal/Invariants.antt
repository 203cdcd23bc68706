-- The digits passed so far are decimal, so the word is if the digits that are left are (Testing).
use Rattle.packed_decimal.proofs.Prelude.{DIGITS}
use Rattle.packed_decimal.proofs.Face.{Testing}
use Rattle.packed_decimal.proofs.digits.is_decimal.Given as goal

abbrev pub invariant-loop-digit : goal.invariant-loop-digit
invariant-loop-digit l = Testing DIGITS l.word l._digit l.rest
