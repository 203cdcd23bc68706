use Rattle.parities.proofs.Prelude.{needs}
use Rattle.parities.proofs.Face.{gathered_refl, gathered_trans}
use Rattle.parities.proofs.sums.gather_rows.Goals as goal

pub loop-t-init : goal.loop-t-init
loop-t-init c = gathered_refl

pub loop-t-preserved : goal.loop-t-preserved
loop-t-preserved c = search (gathered_trans, needs)
