-- The result that `blame_plan` promises, handed over.
use Rattle.exports.proofs.Prelude.{needs, IsByte, All, all_bytes}
use Rattle.exports.proofs.BlameCodes.{blame_handed}
use Rattle.exports.proofs.blame.lucarnecress_blame.Goals as goal

pub returns : goal.returns
returns c =
    let small : All IsByte c.args.plan.now = all_bytes c.args.plan.now (λ i. (c.type_inv.plan i).fits) in
    search (blame_handed, small, needs)
