-- The loop carries what the rounds so far leave, and that the last one narrowed. The measure is how many atoms were undecided before it.
use Rattle.answer_sets.proofs.Prelude.{ones, lent, SatisfiesAll, Sifted, undecided, Narrows}
use Rattle.answer_sets.proofs.rounds.rounds.Given as goal

abbrev pub invariant-loop-before : goal.invariant-loop-before
invariant-loop-before l = Sifted (lent l.rules) l.which l.initial.before l.which l.p × Narrows (SatisfiesAll (lent l.rules) l.which) l.before l.p.state

abbrev pub decreases-loop-before : goal.decreases-loop-before
decreases-loop-before l = ones (undecided l.before.up l.before.dropped)
