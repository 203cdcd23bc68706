-- The word that the step was on has one fewer.
use Rattle.propagating.proofs.Prelude.{arith, taken_less}
use Rattle.propagating.proofs.agenda.take.Goals as goal

pub returns-then-a-ne0 : goal.returns-then-a-ne0
returns-then-a-ne0 c = record { less = omega (arith, taken_less c.lowest-rule.ensures.0 c.drop.ensures) }

pub returns-then-a-ne0-2 : goal.returns-then-a-ne0-2
returns-then-a-ne0-2 c = record { less = omega (arith, taken_less c.lowest-atom.ensures.0 c.drop-then-a-ne0-2.ensures) }

pub returns : goal.returns
returns c = record { less = omega (arith, taken_less c.lowest-other.ensures.0 c.drop-2.ensures) }
