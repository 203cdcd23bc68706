use Rattle.propagating.proofs.Prelude.{narrows_refl, narrows_trans, same_pairs, same_trans, needs}
use Rattle.propagating.proofs.Face.{propagation_falls}
use Rattle.propagating.proofs.propagate.run_agenda.Goals as goal

pub loop-taken-init : goal.loop-taken-init
loop-taken-init c = search (narrows_refl, same_pairs, needs)

pub loop-taken-smaller : goal.loop-taken-smaller
loop-taken-smaller c = search (propagation_falls, c.in-Some.ensures, needs)

pub loop-taken-preserved : goal.loop-taken-preserved
loop-taken-preserved c = search (narrows_trans, same_trans, needs)
