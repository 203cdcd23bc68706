-- The tables are numbered below MAX_TABLES.
use Rattle.atoms.specs.Word.{below}
use Rattle.searching.proofs.Prelude.{arith, cut_fits, MAX_TABLES}
use Rattle.searching.proofs.spare.worth_of.Goals as goal

pub returns-then-not-at_most_one : goal.returns-then-not-at_most_one
unfolding below
returns-then-not-at_most_one c = rw c.cut-tables.ensures (cut_fits _ _ MAX_TABLES (rw c.first.ensures (omega arith)))

pub returns : goal.returns
unfolding below
returns c = rw c.cut-tables.ensures (cut_fits _ _ MAX_TABLES (rw c.first.ensures (omega arith)))
