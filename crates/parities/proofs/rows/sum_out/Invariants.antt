-- The loop carries that the rows are the same.
use Rattle.parities.proofs.Prelude.{SameRows}
use Rattle.parities.proofs.rows.sum_out.Given as goal

abbrev pub invariant-loop-to : goal.invariant-loop-to
invariant-loop-to l = SameRows l.initial.words l.initial.sums l.words l.sums
