-- Everything is behind the start.
use Rattle.finding.proofs.Prelude.{needs}
use Rattle.finding.proofs.Face.{behind_from_start, behind_from_above, decides_below}
use Rattle.finding.proofs.least.is_behind.Goals as goal

pub returns-in-None : goal.returns-in-None
returns-in-None c = search (behind_from_start, needs)

pub returns-in-Some : goal.returns-in-Some
returns-in-Some c = search (behind_from_above, decides_below, needs)
