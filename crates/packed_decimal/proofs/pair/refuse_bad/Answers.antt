-- The first test that fails tells which is the first.
use Rattle.packed_decimal.proofs.Prelude.{needs}
use Rattle.packed_decimal.proofs.Face.{tested_bad, tested_good, pair_first, pair_second, pair_none}
use Rattle.packed_decimal.proofs.pair.refuse_bad.Goals as goal

pub returns-then-not-is_reading : goal.returns-then-not-is_reading
returns-then-not-is_reading c = search (pair_first, tested_bad, needs)

pub returns-then-not-is_reading-2 : goal.returns-then-not-is_reading-2
returns-then-not-is_reading-2 c = search (pair_second, tested_good, tested_bad, needs)

pub returns : goal.returns
returns c = search (pair_none, tested_good, needs)
