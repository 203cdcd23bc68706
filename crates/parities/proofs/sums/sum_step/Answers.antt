-- The rows are right, so are their sums, and what these tell keeps every position whose pilots follow and which satisfies the rules.
use Rattle.parities.proofs.Prelude.{needs}
use Rattle.parities.proofs.Face.{rows_narrow}
use Rattle.parities.proofs.sums.sum_step.Goals as goal

pub returns : goal.returns
returns c = search (rows_narrow, needs)
