-- By the two cases of the answer: its code is the one that the definition gives.
use Rattle.exports.proofs.Prelude.{sym, ap, ◌∙◌, needs, reading_code}
use Rattle.exports.proofs.Face.{reading_handed}
use Rattle.exports.proofs.readings.lucarnecress_reading_of.Goals as goal

pub returns-in-Ok : goal.returns-in-Ok
returns-in-Ok c =
    reading_handed c.to_reading.ensures (search needs)
    (search needs)

pub returns-in-Err : goal.returns-in-Err
returns-in-Err c =
    reading_handed c.to_reading.ensures c.asked.ensures
    (c.refused_code.ensures ∙ ap reading_code (sym c.in-Err.is))
