-- The loop's invariant: what is carried is still to be put among the members from i on.
use Rattle.searching.proofs.ListInsertion.{Passing}
use Rattle.searching.proofs.listing.insert.Given as goal

abbrev pub invariant-loop-i : goal.invariant-loop-i
invariant-loop-i l = Passing l.initial.list l.fn.count l.fn.value l.list l.carried l.i
