-- The position is held against the first i questions (Holding).
use Rattle.questions.proofs.Face.{Holding}
use Rattle.questions.proofs.counter.hold.Given as goal

abbrev pub invariant-loop-i : goal.invariant-loop-i
invariant-loop-i l = Holding l.position l.up l.dropped l.initial.counts l.n l.counts l.i
