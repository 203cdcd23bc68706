use Rattle.atoms.proofs.Prelude.{needs, ◌∪◌}
use Rattle.atoms.proofs.union.Goals as goal

pub returns : goal.returns
unfolding ◌∪◌
returns c = search needs
