-- By the test of the number.
use Rattle.exports.proofs.Prelude.{needs}
use Rattle.exports.proofs.Face.{asked_unmeasured, asked_measured}
use Rattle.exports.proofs.readings.asked.Goals as goal

pub returns-then-number-eq-NO_NUMBER : goal.returns-then-number-eq-NO_NUMBER
returns-then-number-eq-NO_NUMBER c = search (asked_unmeasured, needs)

pub returns : goal.returns
returns c = search (asked_measured, needs)
