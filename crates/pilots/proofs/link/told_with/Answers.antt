-- The table has a pilot, and tells both its uses.
use Rattle.pilots.proofs.Prelude.{needs}
use Rattle.pilots.proofs.Face.{told_more}
use Rattle.pilots.proofs.link.told_with.Goals as goal

pub returns : goal.returns
returns c = search (told_more, needs)
