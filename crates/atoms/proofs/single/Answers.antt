use Rattle.atoms.proofs.Prelude.{atom, needs}
use Rattle.atoms.proofs.Face.{shifted_one}
use Rattle.atoms.proofs.single.Goals as goal

pub returns : goal.returns
unfolding atom
returns c = search (shifted_one, needs)
