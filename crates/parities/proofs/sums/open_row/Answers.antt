-- The open atoms, and the count of those that are up.
use Rattle.parities.proofs.Prelude.{needs}
use Rattle.parities.proofs.Face.{open_is}
use Rattle.parities.proofs.sums.open_row.Goals as goal

pub returns : goal.returns
returns c = search (open_is, needs)
