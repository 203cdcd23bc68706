-- The loop carries that the state narrows for the rows.
use Rattle.parities.proofs.Prelude.{Narrows, RowsHold}
use Rattle.parities.proofs.rows.read_rows.Given as goal

abbrev pub invariant-loop-row : goal.invariant-loop-row
invariant-loop-row l = Narrows (RowsHold l.fn.words l.fn.bits) l.initial.t l.t
