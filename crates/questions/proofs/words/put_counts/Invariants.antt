-- The counts of the first i questions are written (Putting).
use Rattle.questions.proofs.Face.{Putting}
use Rattle.questions.proofs.words.put_counts.Given as goal

abbrev pub invariant-loop-i : goal.invariant-loop-i
invariant-loop-i l = Putting l.initial.words l.n l.counts l.words l.i
