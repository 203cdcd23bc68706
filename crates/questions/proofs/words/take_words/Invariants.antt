-- The words of the first i questions are taken out (Taken).
use Rattle.questions.proofs.Face.{Taken}
use Rattle.questions.proofs.words.take_words.Given as goal

abbrev pub invariant-loop-i : goal.invariant-loop-i
invariant-loop-i l = Taken l.words l.n l.up l.dropped l.i
