-- The parts below q are written (RowParts).
use Rattle.relay_rows.proofs.Prelude.{row_word}
use Rattle.relay_rows.proofs.Face.{RowParts}
use Rattle.relay_rows.proofs.rows.to_rows.Given as goal

abbrev pub invariant-loop-q : goal.invariant-loop-q
invariant-loop-q l = RowParts (row_word l.fn.count l.list) l.initial.rows l.rows l.q
