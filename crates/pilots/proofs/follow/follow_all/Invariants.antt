-- The loop carries that the tables so far are followed.
use Rattle.pilots.proofs.Face.{Followed}
use Rattle.pilots.proofs.follow.follow_all.Given as goal

abbrev pub invariant-loop-t : goal.invariant-loop-t
invariant-loop-t l = Followed l.fn.rules l.fn.pilots l.fn.position l.t
