-- `read_use` meets its contract: at each return the tests that led there say which row of the fault table fits.
use Rattle.reading.proofs.Prelude.{le-leb, lt-leb, needs}
use Rattle.reading.proofs.Face.{late_row, full_row, short_row, use_refused, use_read}
use Rattle.reading.proofs.usage.read_use.Goals as goal

pub returns-then-is_late : goal.returns-then-is_late
returns-then-is_late c = search (late_row, needs)

pub returns-then-use_count-ge-MAX_USES : goal.returns-then-use_count-ge-MAX_USES
returns-then-use_count-ge-MAX_USES c = search (full_row, le-leb, needs)

pub returns-then-operands-lt-USE_OPERANDS : goal.returns-then-operands-lt-USE_OPERANDS
returns-then-operands-lt-USE_OPERANDS c = search (short_row, lt-leb, needs)

pub returns-then-is_bad_use : goal.returns-then-is_bad_use
returns-then-is_bad_use c = search (use_refused, lt-leb, needs)

pub returns : goal.returns
returns c = search (use_read, lt-leb, needs)
