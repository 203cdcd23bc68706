-- Nothing changes, or one row is added.
use Rattle.parities.proofs.Face.{same_rows_refl}
use Rattle.parities.proofs.rows.sum_into.Goals as goal

pub returns-then-from-to : goal.returns-then-from-to
returns-then-from-to c = same_rows_refl

pub returns-then-are_apart : goal.returns-then-are_apart
returns-then-are_apart c = same_rows_refl
