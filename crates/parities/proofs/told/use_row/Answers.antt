-- The table's inputs, and its answer by the use's sign.
use Rattle.parities.proofs.Prelude.{needs}
use Rattle.parities.proofs.Face.{use_row_is}
use Rattle.parities.proofs.told.use_row.Goals as goal

pub returns : goal.returns
returns c = search (use_row_is, needs)
