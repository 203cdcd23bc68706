use Rattle.parities.proofs.Prelude.{needs}
use Rattle.parities.proofs.Face.{same_rows_refl, same_rows_trans}
use Rattle.parities.proofs.rows.sum_rows.Goals as goal

pub loop-row-init : goal.loop-row-init
loop-row-init c = same_rows_refl

pub loop-row-preserved : goal.loop-row-preserved
loop-row-preserved c = search (same_rows_trans, needs)
