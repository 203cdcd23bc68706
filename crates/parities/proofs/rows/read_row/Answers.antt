-- One atom is up, or none is.
use Rattle.parities.proofs.Prelude.{narrows_for, narrows_refl, needs}
use Rattle.parities.proofs.Face.{row_some, row_drops}
use Rattle.parities.proofs.rows.read_row.Goals as goal

pub returns-then-bit-eq1 : goal.returns-then-bit-eq1
returns-then-bit-eq1 c = search (narrows_for, row_some, needs)

pub returns-then-not-at_most_one : goal.returns-then-not-at_most_one
returns-then-not-at_most_one c = narrows_refl

pub returns : goal.returns
returns c = row_drops c.args.s c.requires (search needs) (c.at_most_one.ensures.yes c.if-not-at_most_one.false) (search needs)
