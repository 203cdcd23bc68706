use Rattle.parities.proofs.Prelude.{needs}
use Rattle.parities.proofs.Face.{found_none, found_next, found_all}
use Rattle.parities.proofs.tables.parity_tables.Goals as goal

pub loop-t-init : goal.loop-t-init
loop-t-init c = found_none

pub loop-t-preserved : goal.loop-t-preserved
loop-t-preserved c = search (found_next, needs)

pub returns : goal.returns
returns c = search (found_all, needs)
