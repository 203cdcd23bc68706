-- Both words of the state are tested.
use Rattle.finding.proofs.Prelude.{needs, left}
use Rattle.finding.proofs.Face.{kept_there}
use Rattle.finding.proofs.gather.kept.Goals as goal

pub returns-then-not-is_subset : goal.returns-then-not-is_subset
returns-then-not-is_subset c = left

pub returns-then-not-are_apart : goal.returns-then-not-are_apart
returns-then-not-are_apart c = left

pub returns : goal.returns
returns c = search (kept_there, needs)
