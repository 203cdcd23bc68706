-- `is_bad_table` meets its contract: a truth word above that of all rows has a bit behind them.
use Rattle.reading.proofs.Prelude.{needs}
use Rattle.reading.proofs.Tables.{bad_many_inputs, rows_few, bad_above_rows}
use Rattle.reading.proofs.table.is_bad_table.Goals as goal

pub returns-then-count-gt-MAX_INPUTS : goal.returns-then-count-gt-MAX_INPUTS
returns-then-count-gt-MAX_INPUTS c = search (bad_many_inputs, needs)

pub first-requires : goal.first-requires
first-requires c = search (rows_few, needs)

pub returns : goal.returns
returns c = search (bad_above_rows, needs)
