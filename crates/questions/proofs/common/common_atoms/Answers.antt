use Rattle.questions.proofs.Prelude.{needs}
use Rattle.questions.proofs.CommonAtoms.{common_start, common_more}
use Rattle.questions.proofs.common.common_atoms.Goals as goal

pub loop-position-init : goal.loop-position-init
loop-position-init c = search (common_start, needs)

pub loop-position-preserved : goal.loop-position-preserved
loop-position-preserved c = search (common_more, needs)
