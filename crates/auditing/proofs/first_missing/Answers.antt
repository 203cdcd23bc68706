-- What was read, whether the bytes are a sheet, and what was found.
use Rattle.std.proofs.lemmas.Result.{err_from_is_err_and}
use Rattle.auditing.proofs.Prelude.{IsByte, All, read_fits, needs}
use Rattle.auditing.proofs.Face.{sheet_few, refused_audited, bad_audited, found_audited}
use Rattle.reading.proofs.Limits.{all_bytes}
use Rattle.auditing.proofs.first_missing.Goals as goal

pub returns-in_err-read : goal.returns-in_err-read
returns-in_err-read c =
    let small : All IsByte c.args.positions.now = all_bytes c.args.positions.now (λ i. (c.type_inv.positions i).fits) in
    let p = err_from_is_err_and c.from_residual.result c.from_residual.ensures.1 in
    rw (p.1, p.2) (refused_audited _ _ small c.in_err-read.ensures.read)

pub returns-then-is_bad_sheet : goal.returns-then-is_bad_sheet
returns-then-is_bad_sheet c =
    let small : All IsByte c.args.positions.now = all_bytes c.args.positions.now (λ i. (c.type_inv.positions i).fits) in
    search (bad_audited, small, c.in_ok-read.ensures.read, needs)

pub missing_of-requires : goal.missing_of-requires
missing_of-requires c = (read_fits _ c.in_ok-read.ensures.read, search (sheet_few, needs))

pub returns : goal.returns
returns c =
    let small : All IsByte c.args.positions.now = all_bytes c.args.positions.now (λ i. (c.type_inv.positions i).fits) in
    search (found_audited, small, c.in_ok-read.ensures.read, needs)
