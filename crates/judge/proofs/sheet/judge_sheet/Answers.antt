-- The answer at each return, from what was read and the test of the sheet.
use Rattle.std.proofs.lemmas.Result.{err_from_is_err_and}
use Rattle.judge.proofs.Prelude.{needs, IsByte, All, all_bytes, read_fits}
use Rattle.judge.proofs.Face.{refused_sheet, bad_sheet, judged_sheet}
use Rattle.judge.proofs.sheet.judge_sheet.Goals as goal

pub returns-in_err-read : goal.returns-in_err-read
returns-in_err-read c =
    let small : All IsByte c.args.positions.now = all_bytes c.args.positions.now (λ i. (c.type_inv.positions i).fits) in
    let p = err_from_is_err_and c.from_residual.result c.from_residual.ensures.1 in
    rw (p.1, p.2) (refused_sheet _ _ small c.in_err-read.ensures.read)

pub returns-then-is_bad_sheet : goal.returns-then-is_bad_sheet
returns-then-is_bad_sheet c =
    let small : All IsByte c.args.positions.now = all_bytes c.args.positions.now (λ i. (c.type_inv.positions i).fits) in
    search (bad_sheet, small, c.in_ok-read.ensures.read, needs)

pub judge_places-requires : goal.judge_places-requires
judge_places-requires c = read_fits _ c.in_ok-read.ensures.read

pub returns : goal.returns
returns c =
    let small : All IsByte c.args.positions.now = all_bytes c.args.positions.now (λ i. (c.type_inv.positions i).fits) in
    search (judged_sheet, small, c.in_ok-read.ensures.read, needs)
