-- The loop carries that each entry that is done is kept and spanned where it agrees.
use Rattle.joining.proofs.Face.{Sifting}
use Rattle.joining.proofs.sift.sift_block.Given as goal

abbrev pub invariant-loop-i : goal.invariant-loop-i
invariant-loop-i l = Sifting l.fn.words l.fn.at l.fn.bits l.fn.up l.fn.decided l.initial.r l.r l.i-iterator.rest
