-- By the two cases of the answer: what was found is handed over, or nothing is written.
use Rattle.exports.proofs.Prelude.{sym, ap, ◌∙◌, Option, Placed, Refusal, Result, largest_code, largest_words}
use Rattle.exports.proofs.Face.{largest_handed}
use Rattle.exports.proofs.readings.lucarnecress_reading_largest.Goals as goal

pub returns-in-Ok : goal.returns-in-Ok
returns-in-Ok c =
    let told = sym c.in-Ok.is in
    largest_handed c.find_largest.ensures (c.hand_found.ensures.value ∙ ap largest_code told)
    (c.hand_found.ensures.found_after ∙ ap (λ (l : Result (Option Placed) Refusal). largest_words l c.args.found.now) told)
