-- A head atom is up; or the body fails, is open or holds; and where it holds, the whole head is dropped or not.
use Rattle.narrowing.proofs.Prelude.{needs}
use Rattle.narrowing.proofs.Face.{met_spent, open_live, held_stopped, held_live}
use Rattle.narrowing.proofs.choice.standing_of.Goals as goal

pub returns-then-not-are_apart : goal.returns-then-not-are_apart
returns-then-not-are_apart c = search (met_spent, needs)

pub returns-then-is_subset : goal.returns-then-is_subset
returns-then-is_subset c = search (held_stopped, needs)

pub returns-in-Open : goal.returns-in-Open
returns-in-Open c = search (open_live, needs)

pub returns-else-is_subset : goal.returns-else-is_subset
returns-else-is_subset c = search (held_live, needs)
