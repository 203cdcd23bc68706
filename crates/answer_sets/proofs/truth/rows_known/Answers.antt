-- None of them, all, or neither.
use Rattle.answer_sets.proofs.Prelude.{needs}
use Rattle.answer_sets.proofs.Face.{rows_hold, rows_fail, rows_open}
use Rattle.answer_sets.proofs.truth.rows_known.Goals as goal

pub returns-then-are_apart : goal.returns-then-are_apart
returns-then-are_apart c = search (rows_fail, needs)

pub returns-then-is_subset : goal.returns-then-is_subset
returns-then-is_subset c = search (rows_hold, needs)

pub returns : goal.returns
returns c = search (rows_open, needs)
