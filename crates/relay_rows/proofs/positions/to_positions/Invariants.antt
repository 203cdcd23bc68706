-- The parts below q are written (ListParts).
use Rattle.relay_rows.proofs.Prelude.{position_word}
use Rattle.relay_rows.proofs.Face.{ListParts}
use Rattle.relay_rows.proofs.positions.to_positions.Given as goal

abbrev pub invariant-loop-q : goal.invariant-loop-q
invariant-loop-q l = ListParts (position_word l.fn.count l.rows) l.initial.list l.list l.q
