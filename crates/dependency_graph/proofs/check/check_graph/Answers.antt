-- The rows in turn: a row found, or passed with its word empty (Rows).
use Rattle.dependency_graph.proofs.Prelude.{needs}
use Rattle.dependency_graph.proofs.ConditionRows.{row_16_found, row_10_found, row_11_found, row_12_found, row_13_found, row_14_found, rows_passed}
use Rattle.dependency_graph.proofs.check.check_graph.Goals as goal

pub returns-then-given-ne0 : goal.returns-then-given-ne0
returns-then-given-ne0 c = search (row_16_found, needs)

pub returns-then-in_none-ne0 : goal.returns-then-in_none-ne0
returns-then-in_none-ne0 c = search (row_10_found, needs)

pub returns-then-in_several-ne0 : goal.returns-then-in_several-ne0
returns-then-in_several-ne0 c = search (row_11_found, needs)

pub returns-then-cyclic-ne0 : goal.returns-then-cyclic-ne0
returns-then-cyclic-ne0 c = search (row_12_found, needs)

pub returns-then-nonmonotonic-ne0 : goal.returns-then-nonmonotonic-ne0
returns-then-nonmonotonic-ne0 c = search (row_13_found, needs)

pub returns-then-monotonic-ne0 : goal.returns-then-monotonic-ne0
returns-then-monotonic-ne0 c = search (row_14_found, needs)

pub returns : goal.returns
returns c = search (rows_passed, needs)
