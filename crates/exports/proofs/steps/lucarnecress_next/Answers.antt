-- The result that `next_position` promises, handed over.
use Rattle.exports.proofs.Prelude.{needs, IsByte, All, all_bytes}
use Rattle.exports.proofs.Face.{next_handed}
use Rattle.exports.proofs.steps.lucarnecress_next.Goals as goal

pub returns : goal.returns
returns c =
    let small : All IsByte c.args.plan.now = all_bytes c.args.plan.now (λ i. (c.type_inv.plan i).fits) in
    search (next_handed, small, needs)
