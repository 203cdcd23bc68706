-- The words of the first i questions are taken out (TakenOut).
use Rattle.questions.proofs.Face.{TakenOut}
use Rattle.questions.proofs.question.words_of.Given as goal

abbrev pub invariant-loop-i : goal.invariant-loop-i
invariant-loop-i l = TakenOut l.questions l.up l.dropped l.i
