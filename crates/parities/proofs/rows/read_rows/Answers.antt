use Rattle.parities.proofs.Prelude.{digit_lt, narrows_refl, needs}
use Rattle.parities.proofs.Face.{rows_more}
use Rattle.parities.proofs.rows.read_rows.Goals as goal

pub loop-row-init : goal.loop-row-init
loop-row-init c = narrows_refl

pub read_row-t-requires : goal.read_row-t-requires
read_row-t-requires c = search (digit_lt, needs)

pub loop-row-preserved : goal.loop-row-preserved
loop-row-preserved c = search (rows_more, needs)
