-- Each turned word is the position's (position-part).
use Rattle.relay_rows.proofs.Prelude.{needs}
use Rattle.relay_rows.proofs.Face.{scattered_same, position_part}
use Rattle.relay_rows.proofs.positions.write_part.Goals as goal

pub returns : goal.returns
returns c = search (scattered_same, position_part, needs)
