use Rattle.narrowing.proofs.Prelude.{needs, count_proper}
use Rattle.narrowing.proofs.Face.{above_all, above_next, held_within}
use Rattle.narrowing.proofs.loops.looped_atoms.Goals as goal

pub loop-held-init : goal.loop-held-init
loop-held-init c = search (above_all, needs)

pub loop-held-smaller : goal.loop-held-smaller
loop-held-smaller c = search (count_proper, held_within, needs)

pub loop-held-preserved : goal.loop-held-preserved
loop-held-preserved c = search (above_next, needs)
