-- The pilot is up, dropped or undecided.
use Rattle.pilots.proofs.Prelude.{narrows_refl, needs}
use Rattle.pilots.proofs.Face.{tested_shared, pilot_up, pilot_dropped}
use Rattle.pilots.proofs.table_step.table_step.Goals as goal

pub returns-then-rules-lt-FIRST_RULE : goal.returns-then-rules-lt-FIRST_RULE
returns-then-rules-lt-FIRST_RULE c = narrows_refl

pub returns-then-not-are_apart : goal.returns-then-not-are_apart
returns-then-not-are_apart c =
    pilot_up _ (search (tested_shared, needs))
    (rw (c.table_inputs-inputs.ensures, c.table_truth-truth.ensures) at c.tell_inputs.ensures)

pub returns-then-not-are_apart-2 : goal.returns-then-not-are_apart-2
returns-then-not-are_apart-2 c =
    pilot_dropped _ (search (tested_shared, needs))
    (rw c.table_truth-truth.ensures at c.outside.ensures)
    (rw c.table_inputs-inputs.ensures at c.tell_inputs-then-not-are_apart-2.ensures)

pub returns : goal.returns
returns c = rw (c.table_inputs-inputs.ensures, c.table_truth-truth.ensures) at c.tell_pilot.ensures
