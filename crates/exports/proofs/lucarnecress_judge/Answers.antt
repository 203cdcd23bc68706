-- The code of the answer that `judge` promises.
use Rattle.exports.proofs.Prelude.{ap, ◌∙◌, all_bytes, judge_code}
use Rattle.exports.proofs.Face.{judge_handed}
use Rattle.exports.proofs.lucarnecress_judge.Goals as goal

pub returns : goal.returns
returns c =
    judge_handed c.args.plan.now c.args.position
    (all_bytes c.args.plan.now (λ i. (c.type_inv.plan i).fits))
    (c.answer_code.ensures ∙ ap judge_code c.judge.ensures.is)
