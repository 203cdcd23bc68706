-- The loop carries the words that are filled.
use Rattle.joining.proofs.Face.{Filling}
use Rattle.joining.proofs.filter.full_filter.Given as goal

abbrev pub invariant-loop-i : goal.invariant-loop-i
invariant-loop-i l = Filling l.fn.counts l.word-items l.i
