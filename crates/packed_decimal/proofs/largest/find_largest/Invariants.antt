-- The readings passed so far are good, and their largest is found (Seeking); a lone last byte stands behind all whole ones.
use Rattle.packed_decimal.proofs.Face.{Seeking}
use Rattle.packed_decimal.proofs.largest.find_largest.Given as goal

abbrev pub invariant-loop-place : goal.invariant-loop-place
invariant-loop-place l = Seeking l.bytes l.place l.found
