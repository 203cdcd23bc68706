-- `read_edge` meets its contract: at each return the tests that led there say which row of the fault table fits.
use Rattle.reading.proofs.Prelude.{needs}
use Rattle.reading.proofs.Face.{late_row, short_row, edge_refused, edge_read}
use Rattle.reading.proofs.edge.read_edge.Goals as goal

pub returns-then-is_late : goal.returns-then-is_late
returns-then-is_late c = search (late_row, needs)

pub returns-then-operands-lt-EDGE_OPERANDS : goal.returns-then-operands-lt-EDGE_OPERANDS
returns-then-operands-lt-EDGE_OPERANDS c = search (short_row, needs)

pub returns-then-is_bad_edge : goal.returns-then-is_bad_edge
returns-then-is_bad_edge c = search (edge_refused, needs)

pub returns : goal.returns
returns c = search (edge_read, needs)
