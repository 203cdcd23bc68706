-- By the two cases of the answer: its code is the one that the definition gives.
use Rattle.exports.proofs.Prelude.{sym, ap, ◌∙◌, added_code}
use Rattle.exports.proofs.Face.{sum_handed}
use Rattle.exports.proofs.readings.lucarnecress_reading_sum.Goals as goal

pub returns-in-Ok : goal.returns-in-Ok
returns-in-Ok c =
    sum_handed c.add.ensures
    (c.sum_code.ensures ∙ ap added_code (sym c.in-Ok.is))

pub returns-in-Err : goal.returns-in-Err
returns-in-Err c =
    sum_handed c.add.ensures
    (c.refused_code.ensures ∙ ap added_code (sym c.in-Err.is))
