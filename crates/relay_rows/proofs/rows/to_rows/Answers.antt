-- Refused where the areas and the count do not suit; else the area is written.
use Rattle.relay_rows.proofs.Prelude.{needs}
use Rattle.relay_rows.proofs.Face.{answer_written, rows_written, row_parts_more, row_parts_end}
use Rattle.relay_rows.proofs.rows.to_rows.Goals as goal

pub loop-q-preserved : goal.loop-q-preserved
loop-q-preserved c = search (row_parts_more, needs)

pub returns : goal.returns
returns c =
    let s = c.suits.ensures.yes c.if-not-suits.false in
    answer_written s (search (rows_written, row_parts_end, needs))
