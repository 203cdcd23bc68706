-- The agenda is empty, as it was, or atoms were decided.
use Rattle.propagating.proofs.Prelude.{needs}
use Rattle.propagating.proofs.Face.{woken_none, woken_new}
use Rattle.propagating.proofs.agenda.woken.Goals as goal

pub returns-then-not-are_apart : goal.returns-then-not-are_apart
returns-then-not-are_apart c = woken_none _ _ _

pub returns : goal.returns
returns c = search (woken_new, needs)
