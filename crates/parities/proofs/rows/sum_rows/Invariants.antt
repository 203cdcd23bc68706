-- The loop carries that the rows are the same.
use Rattle.parities.proofs.Prelude.{SameRows}
use Rattle.parities.proofs.rows.sum_rows.Given as goal

abbrev pub invariant-loop-row : goal.invariant-loop-row
invariant-loop-row l = SameRows l.initial.words l.initial.sums l.words l.sums
