-- Two words within the state's.
use Rattle.parities.proofs.Prelude.{needs}
use Rattle.parities.proofs.Face.{held_when}
use Rattle.parities.proofs.told.is_held.Goals as goal

pub returns : goal.returns
returns c = search (held_when, needs)
