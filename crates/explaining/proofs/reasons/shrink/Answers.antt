use Rattle.explaining.proofs.Prelude.{needs}
use Rattle.explaining.proofs.Face.{told_own, told_on}
use Rattle.explaining.proofs.reasons.shrink.Goals as goal

pub spare_each-c-requires : goal.spare_each-c-requires
spare_each-c-requires c = search (told_own, needs)

pub loop-i-preserved : goal.loop-i-preserved
loop-i-preserved c = search (told_on, needs)
