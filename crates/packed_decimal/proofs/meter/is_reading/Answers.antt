-- By the two cases of a word: 0xFFFF, and any other.
use Rattle.packed_decimal.proofs.Prelude.{sym, ◌∙◌, eq-eqb, needs, NOT_MEASURED}
use Rattle.packed_decimal.proofs.Face.{unmeasured_is, measured_is}
use Rattle.packed_decimal.proofs.meter.is_reading.Goals as goal

pub returns-then-word-eq-NOT_MEASURED : goal.returns-then-word-eq-NOT_MEASURED
returns-then-word-eq-NOT_MEASURED c =
    eq-eqb c.args.word NOT_MEASURED c.if-word-eq-NOT_MEASURED.true ∙ sym (unmeasured_is c.args.word c.if-word-eq-NOT_MEASURED.true)

pub returns-else-word-eq-NOT_MEASURED : goal.returns-else-word-eq-NOT_MEASURED
returns-else-word-eq-NOT_MEASURED c = search (measured_is, needs)
