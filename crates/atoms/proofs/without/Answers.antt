use Rattle.atoms.proofs.Prelude.{needs, ◌∖◌, and_le_l}
use Rattle.atoms.proofs.without.Goals as goal

pub overflow_sub-result : goal.overflow_sub-result
overflow_sub-result c = search (and_le_l, needs)

pub returns : goal.returns
unfolding ◌∖◌
returns c = search needs
