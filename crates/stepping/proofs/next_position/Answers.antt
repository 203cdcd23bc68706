-- What was read, and what was found in it.
use Rattle.std.proofs.lemmas.Result.{err_from_is_err_and}
use Rattle.stepping.proofs.Prelude.{refl, refused_answered, read_fits}
use Rattle.stepping.proofs.Nexts.{found_followed}
use Rattle.stepping.proofs.next_position.Goals as goal

pub returns-in_err-read : goal.returns-in_err-read
returns-in_err-read c =
    let p = err_from_is_err_and c.from_residual.result c.from_residual.ensures.1 in
    rw (p.1, p.2) (refused_answered _ c.in_err-read.ensures.read refl refl)

pub next_of-requires : goal.next_of-requires
next_of-requires c = read_fits _ c.in_ok-read.ensures.read

pub returns : goal.returns
returns c = found_followed _ _ c.in_ok-read.ensures.read c.next_of.ensures
