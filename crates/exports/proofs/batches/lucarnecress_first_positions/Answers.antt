-- The result that `next_positions` promises, handed over.
use Rattle.exports.proofs.Prelude.{needs, IsByte, All, all_bytes}
use Rattle.exports.proofs.Face.{batch_handed}
use Rattle.exports.proofs.batches.lucarnecress_first_positions.Goals as goal

pub returns : goal.returns
returns c =
    let small : All IsByte c.args.plan.now = all_bytes c.args.plan.now (λ i. (c.type_inv.plan i).fits) in
    search (batch_handed, small, needs)
