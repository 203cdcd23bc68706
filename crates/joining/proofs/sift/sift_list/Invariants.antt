-- The loop carries that the entries of the words that are done are sifted.
use Rattle.joining.proofs.Face.{Listing}
use Rattle.joining.proofs.sift.sift_list.Given as goal

abbrev pub invariant-loop-k : goal.invariant-loop-k
invariant-loop-k l = Listing l.fn.words l.fn.base l.fn.up l.fn.decided l.fn.at l.initial.filter l.k l.filter l.found
