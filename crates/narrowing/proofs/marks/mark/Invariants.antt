-- The loop carries that the word was noted for the atoms that are done.
use Rattle.narrowing.proofs.Face.{Adding, IsAt}
use Rattle.narrowing.proofs.marks.mark.Given as goal

abbrev pub invariant-loop-atom : goal.invariant-loop-atom
invariant-loop-atom l = Adding (IsAt l.fn.base l.fn.word) l.fn.which l.atom-iterator.rest l.fn.table l.table
