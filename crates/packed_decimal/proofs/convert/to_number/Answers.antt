-- The one reading is bad, or it is what it says.
use Rattle.packed_decimal.proofs.Prelude.{needs}
use Rattle.packed_decimal.proofs.Face.{tested_bad, tested_good, number_bad, number_says, numbered}
use Rattle.packed_decimal.proofs.convert.to_number.Goals as goal

pub returns-then-not-is_reading : goal.returns-then-not-is_reading
returns-then-not-is_reading c = search (numbered, number_bad, tested_bad, needs)

pub returns : goal.returns
returns c = search (numbered, number_says, tested_good, needs)
