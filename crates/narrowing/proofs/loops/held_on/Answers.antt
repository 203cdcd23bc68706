-- Nothing is added, or the atoms of the head.
use Rattle.narrowing.proofs.Prelude.{needs}
use Rattle.narrowing.proofs.Face.{none_held, head_held}
use Rattle.narrowing.proofs.loops.held_on.Goals as goal

pub returns-then-are_apart : goal.returns-then-are_apart
returns-then-are_apart c = search (none_held, needs)

pub returns : goal.returns
returns c = search (head_held, needs)
