use Rattle.packed_decimal.proofs.Prelude.{needs}
use Rattle.packed_decimal.proofs.Face.{testing_bad, testing_more, testing_all}
use Rattle.packed_decimal.proofs.digits.is_decimal.Goals as goal

pub returns-then-rest-ge-TEN : goal.returns-then-rest-ge-TEN
returns-then-rest-ge-TEN c = search (testing_bad, needs)

pub loop-digit-preserved : goal.loop-digit-preserved
loop-digit-preserved c = search (testing_more, needs)

pub returns : goal.returns
returns c = search (testing_all, needs)
