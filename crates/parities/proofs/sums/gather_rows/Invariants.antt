-- The loop carries that the rows are right.
use Rattle.parities.proofs.Prelude.{FollowAll, RowsGathered}
use Rattle.parities.proofs.sums.gather_rows.Given as goal

abbrev pub invariant-loop-t : goal.invariant-loop-t
invariant-loop-t l = RowsGathered (FollowAll l.fn.rules l.fn.pilots) l.fn.s l.initial.words l.initial.sums l.words l.sums
