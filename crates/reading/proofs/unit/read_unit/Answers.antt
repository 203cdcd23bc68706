-- `read_unit` meets its contract: at each return the tests that led there say which row of the fault table fits.
use Rattle.reading.proofs.Prelude.{le-leb, lt-leb, needs}
use Rattle.reading.proofs.Face.{late_row, full_row, short_row, unit_refused, unit_read}
use Rattle.reading.proofs.unit.read_unit.Goals as goal

pub returns-then-is_late : goal.returns-then-is_late
returns-then-is_late c = search (late_row, needs)

pub returns-then-unit_count-ge-MAX_UNITS : goal.returns-then-unit_count-ge-MAX_UNITS
returns-then-unit_count-ge-MAX_UNITS c = search (full_row, le-leb, needs)

pub returns-then-operands-lt-UNIT_OPERANDS : goal.returns-then-operands-lt-UNIT_OPERANDS
returns-then-operands-lt-UNIT_OPERANDS c = search (short_row, lt-leb, needs)

pub returns-then-names_absent_rule : goal.returns-then-names_absent_rule
returns-then-names_absent_rule c = search (unit_refused, lt-leb, needs)

pub returns : goal.returns
returns c = search (unit_read, lt-leb, needs)
