-- The result that `first_missing` promises, handed over.
use Rattle.exports.proofs.Prelude.{needs, IsByte, All, all_bytes}
use Rattle.exports.proofs.AuditCodes.{missing_handed}
use Rattle.exports.proofs.audits.lucarnecress_missing.Goals as goal

pub returns : goal.returns
returns c =
    let small : All IsByte c.args.plan.now = all_bytes c.args.plan.now (λ i. (c.type_inv.plan i).fits) in
    search (missing_handed, small, needs)
