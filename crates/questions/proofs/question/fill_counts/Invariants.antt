-- The counts of the first i questions are filled in (FilledIn).
use Rattle.questions.proofs.Face.{FilledIn}
use Rattle.questions.proofs.question.fill_counts.Given as goal

abbrev pub invariant-loop-i : goal.invariant-loop-i
invariant-loop-i l = FilledIn l.initial.questions l.counts l.questions l.i
