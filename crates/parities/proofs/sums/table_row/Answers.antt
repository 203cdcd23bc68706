-- The two words of the table and its pilot.
use Rattle.parities.proofs.Prelude.{needs}
use Rattle.parities.proofs.Face.{row_is}
use Rattle.parities.proofs.sums.table_row.Goals as goal

pub returns : goal.returns
returns c = search (row_is, needs)
