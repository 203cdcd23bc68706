-- By the two cases of a word: 0xFFFF, and any other.
use Rattle.packed_decimal.proofs.Prelude.{needs}
use Rattle.packed_decimal.proofs.Face.{unmeasured_says, measured_says}
use Rattle.packed_decimal.proofs.meter.says.Goals as goal

pub returns-then-word-eq-NOT_MEASURED : goal.returns-then-word-eq-NOT_MEASURED
returns-then-word-eq-NOT_MEASURED c = search (unmeasured_says, needs)

pub returns : goal.returns
returns c = search (measured_says, needs)
