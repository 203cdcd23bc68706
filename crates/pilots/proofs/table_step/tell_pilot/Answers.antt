-- All rows that are left are in the truth word, or none is.
use Rattle.pilots.proofs.Prelude.{needs}
use Rattle.pilots.proofs.Face.{tested_apart, tested_within, all_true, all_false}
use Rattle.pilots.proofs.table_step.tell_pilot.Goals as goal

pub returns-then-is_subset : goal.returns-then-is_subset
returns-then-is_subset c = search (all_true, tested_within, needs)

pub returns-then-are_apart : goal.returns-then-are_apart
returns-then-are_apart c = search (all_false, tested_apart, needs)
