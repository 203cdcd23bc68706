-- The atoms that are in one of the words.
use Rattle.parities.proofs.Prelude.{needs}
use Rattle.parities.proofs.Face.{sum_is}
use Rattle.parities.proofs.rows.sum.Goals as goal

pub returns : goal.returns
returns c = search (sum_is, needs)
