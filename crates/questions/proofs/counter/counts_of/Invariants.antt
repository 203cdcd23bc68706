-- The counts are right for the positions passed so far (Tally).
use Rattle.questions.proofs.Face.{Tally}
use Rattle.questions.proofs.counter.counts_of.Given as goal

abbrev pub invariant-loop-position : goal.invariant-loop-position
invariant-loop-position l = Tally l.list l.n l.up l.dropped l.counts l.position-index
