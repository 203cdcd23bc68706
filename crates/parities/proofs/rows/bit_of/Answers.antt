-- A bit is set or not.
use Rattle.parities.proofs.Prelude.{needs}
use Rattle.parities.proofs.Face.{bit_zero, bit_one}
use Rattle.parities.proofs.rows.bit_of.Goals as goal

pub single-requires : goal.single-requires
single-requires c = c.requires

pub returns-then-are_apart : goal.returns-then-are_apart
returns-then-are_apart c = search (bit_zero, needs)

pub returns : goal.returns
returns c = search (bit_one, needs)
