use Rattle.relay_rows.proofs.Prelude.{needs}
use Rattle.relay_rows.proofs.Face.{reading_end}
use Rattle.relay_rows.proofs.strided.read_block.Goals as goal

pub returns : goal.returns
returns c = search (reading_end, needs)
