-- `a & b` is the cut by definition.
use Rattle.atoms.proofs.Prelude.{needs, ◌∩◌}
use Rattle.atoms.proofs.cut.Goals as goal

pub returns : goal.returns
unfolding ◌∩◌
returns c = search needs
