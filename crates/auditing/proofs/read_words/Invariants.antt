-- The words before this place are read (WordsBefore).
use Rattle.auditing.proofs.Face.{WordsBefore}
use Rattle.auditing.proofs.read_words.Given as goal

abbrev pub invariant-loop-place : goal.invariant-loop-place
invariant-loop-place l = WordsBefore l.positions l.words l.place
