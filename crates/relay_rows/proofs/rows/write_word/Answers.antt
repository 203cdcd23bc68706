-- Each turned word is the row's (row-part).
use Rattle.relay_rows.proofs.Prelude.{needs}
use Rattle.relay_rows.proofs.Face.{scattered_same, row_part}
use Rattle.relay_rows.proofs.rows.write_word.Goals as goal

pub returns : goal.returns
returns c = search (scattered_same, row_part, needs)
