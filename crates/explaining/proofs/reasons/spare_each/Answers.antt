use Rattle.explaining.proofs.Prelude.{needs}
use Rattle.explaining.proofs.Face.{told_own, told_on}
use Rattle.explaining.proofs.reasons.spare_each.Goals as goal

pub spare-c-requires : goal.spare-c-requires
spare-c-requires c = search (told_own, c.in-Some.ensures, needs)

pub loop-atom-preserved : goal.loop-atom-preserved
loop-atom-preserved c = search (told_on, needs)
