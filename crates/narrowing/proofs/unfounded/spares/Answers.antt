-- The five ways in which a rule can do without the atoms.
use Rattle.narrowing.proofs.Prelude.{needs}
use Rattle.narrowing.proofs.Face.{spares_head, spares_positive, spares_up, spares_failed, spares_without}
use Rattle.narrowing.proofs.unfounded.spares.Goals as goal

pub returns-then-are_apart : goal.returns-then-are_apart
returns-then-are_apart c = search (spares_head, needs)

pub returns-then-not-are_apart : goal.returns-then-not-are_apart
returns-then-not-are_apart c = search (spares_positive, needs)

pub returns-then-not-are_apart-2 : goal.returns-then-not-are_apart-2
returns-then-not-are_apart-2 c = search (spares_up, needs)

pub returns-then-is_failure : goal.returns-then-is_failure
returns-then-is_failure c = search (spares_failed, needs)

pub returns : goal.returns
returns c = search (spares_without, needs)
