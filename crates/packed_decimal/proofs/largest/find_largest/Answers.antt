use Rattle.packed_decimal.proofs.Prelude.{arith, needs}
use Rattle.packed_decimal.proofs.Face.{tested_bad, tested_good, seeking_start, seeking_more, sought_bad, sought_lone, sought_all}
use Rattle.packed_decimal.proofs.largest.find_largest.Goals as goal

pub loop-place-init : goal.loop-place-init
loop-place-init c = seeking_start _

pub returns-then-not-is_reading : goal.returns-then-not-is_reading
returns-then-not-is_reading c = search (sought_bad, tested_bad, needs)

pub loop-place-preserved : goal.loop-place-preserved
loop-place-preserved c =
    seeking_more c.loop-place.invariant (search needs) c.loop-place-test.true (omega arith) (search (tested_good, needs)) c.larger-found.ensures

pub returns-then-whole-bytes : goal.returns-then-whole-bytes
returns-then-whole-bytes c = search (sought_lone, needs)

pub returns : goal.returns
returns c = search (sought_all, needs)
