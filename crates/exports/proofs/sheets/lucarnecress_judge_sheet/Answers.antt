-- The number of the answer that `judge_sheet` promises.
use Rattle.exports.proofs.Prelude.{needs, IsByte, All, all_bytes}
use Rattle.exports.proofs.SheetCodes.{sheet_judge_handed}
use Rattle.exports.proofs.sheets.lucarnecress_judge_sheet.Goals as goal

pub returns : goal.returns
returns c =
    let small : All IsByte c.args.plan.now = all_bytes c.args.plan.now (λ i. (c.type_inv.plan i).fits) in
    search (sheet_judge_handed, small, needs)
