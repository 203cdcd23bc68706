-- The desk of the program's unit, with the pilots that were taken.
use Rattle.finding.proofs.Prelude.{needs}
use Rattle.finding.proofs.Face.{desk_serves}
use Rattle.finding.proofs.ask.desk_of.Goals as goal

pub returns : goal.returns
returns c = search (desk_serves, needs)
