-- The answer at each return, from what was read.
use Rattle.std.proofs.lemmas.Result.{err_from_is_err_and}
use Rattle.judge.proofs.Prelude.{refl, refused_answered, read_fits}
use Rattle.judge.proofs.Face.{test_judged}
use Rattle.judge.proofs.judge.Goals as goal

pub returns-in_err-read : goal.returns-in_err-read
returns-in_err-read c =
    let p = err_from_is_err_and c.from_residual.result c.from_residual.ensures.1 in
    rw (p.1, p.2) (refused_answered _ c.in_err-read.ensures.read refl refl)

pub is_settled-requires : goal.is_settled-requires
is_settled-requires c = read_fits _ c.in_ok-read.ensures.read

pub returns : goal.returns
returns c = test_judged _ c.in_ok-read.ensures.read c.is_settled.ensures
