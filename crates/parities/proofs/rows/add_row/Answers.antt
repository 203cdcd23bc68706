-- One word is written, and one bit.
use Rattle.parities.proofs.Prelude.{digit_lt, needs}
use Rattle.parities.proofs.Face.{row_added}
use Rattle.parities.proofs.rows.add_row.Goals as goal

pub overflow_add-bit_of : goal.overflow_add-bit_of
overflow_add-bit_of c = search (digit_lt, needs)

pub returns : goal.returns
returns c = search (row_added, needs)
