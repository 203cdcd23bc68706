use Rattle.parities.proofs.Prelude.{needs}
use Rattle.parities.proofs.Face.{same_rows_refl, same_rows_trans}
use Rattle.parities.proofs.rows.sum_out.Goals as goal

pub returns-then-word-eq0 : goal.returns-then-word-eq0
returns-then-word-eq0 c = same_rows_refl

pub loop-to-init : goal.loop-to-init
loop-to-init c = same_rows_refl

pub loop-to-preserved : goal.loop-to-preserved
loop-to-preserved c = search (same_rows_trans, needs)
