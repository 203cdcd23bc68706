use Rattle.relay_rows.proofs.Prelude.{needs}
use Rattle.relay_rows.proofs.Face.{scattering_more}
use Rattle.relay_rows.proofs.strided.write_block.Goals as goal

pub loop-k-preserved : goal.loop-k-preserved
loop-k-preserved c = search (scattering_more, needs)
