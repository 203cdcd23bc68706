-- `read_table` meets its contract: at each return the tests that led there say which row of the fault table fits.
use Rattle.reading.proofs.Prelude.{le-leb, lt-leb, needs}
use Rattle.reading.proofs.Face.{late_row, full_row, short_row, table_refused, table_read}
use Rattle.reading.proofs.table.read_table.Goals as goal

pub returns-then-is_late : goal.returns-then-is_late
returns-then-is_late c = search (late_row, needs)

pub returns-then-table_count-ge-MAX_TABLES : goal.returns-then-table_count-ge-MAX_TABLES
returns-then-table_count-ge-MAX_TABLES c = search (full_row, le-leb, needs)

pub returns-then-operands-lt-TABLE_OPERANDS : goal.returns-then-operands-lt-TABLE_OPERANDS
returns-then-operands-lt-TABLE_OPERANDS c = search (short_row, lt-leb, needs)

pub returns-then-is_bad_table : goal.returns-then-is_bad_table
returns-then-is_bad_table c = search (table_refused, lt-leb, needs)

pub returns : goal.returns
returns c = search (table_read, lt-leb, needs)
