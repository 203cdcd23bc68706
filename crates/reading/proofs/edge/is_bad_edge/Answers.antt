-- `is_bad_edge` meets its contract, test by test; a repeat is the edge's atom in its row.
use Rattle.reading.proofs.Prelude.{le-leb, lt-leb, eq-eqb, ne_eqb, bad_edge, needs}
use Rattle.reading.proofs.Face.{has_by_subset}
use Rattle.reading.proofs.edge.is_bad_edge.Goals as goal

pub returns-then-read-from : goal.returns-then-read-from
unfolding bad_edge
returns-then-read-from c = search (le-leb, needs)

pub returns-then-read-to : goal.returns-then-read-to
unfolding bad_edge
returns-then-read-to c = search (lt-leb, le-leb, needs)

pub returns-then-u-v : goal.returns-then-u-v
unfolding bad_edge
returns-then-u-v c = search (lt-leb, eq-eqb, needs)

pub returns : goal.returns
unfolding bad_edge
returns c = search (lt-leb, ne_eqb, has_by_subset, needs)
