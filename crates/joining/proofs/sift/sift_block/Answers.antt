use Rattle.joining.proofs.Prelude.{needs}
use Rattle.joining.proofs.Face.{sifting_next}
use Rattle.joining.proofs.sift.sift_block.Goals as goal

pub loop-i-preserved : goal.loop-i-preserved
loop-i-preserved c = search (sifting_next, c.in-Some.ensures, needs)
