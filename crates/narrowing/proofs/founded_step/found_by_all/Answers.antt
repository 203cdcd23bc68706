use Rattle.narrowing.proofs.Prelude.{taken_within, needs}
use Rattle.narrowing.proofs.Face.{cut_within}
use Rattle.atoms.proofs.EachAtom.{each_from}
use Rattle.narrowing.proofs.founded_step.found_by_all.Goals as goal

pub loop-rule-init : goal.loop-rule-init
loop-rule-init c = search (cut_within, each_from, needs)

pub loop-rule-preserved : goal.loop-rule-preserved
loop-rule-preserved c = search (taken_within, c.in-Some.ensures, needs)
