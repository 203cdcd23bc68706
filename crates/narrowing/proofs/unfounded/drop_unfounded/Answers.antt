-- The atoms are no inputs, and each rule can do without them.
use Rattle.narrowing.proofs.Prelude.{needs}
use Rattle.narrowing.proofs.Face.{unfounded_narrows}
use Rattle.narrowing.proofs.unfounded.drop_unfounded.Goals as goal

pub returns : goal.returns
returns c = search (unfounded_narrows, needs)
