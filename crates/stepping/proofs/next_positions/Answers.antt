-- What was read, and what was gathered in it.
use Rattle.std.proofs.lemmas.Result.{err_from_is_err_and}
use Rattle.stepping.proofs.Prelude.{read_fits}
use Rattle.stepping.proofs.Face.{refused_stepped, written_stepped}
use Rattle.stepping.proofs.next_positions.Goals as goal

pub returns-in_err-record : goal.returns-in_err-record
returns-in_err-record c =
    let p = err_from_is_err_and c.from_residual.result c.from_residual.ensures.1 in
    rw (p.1, p.2) (refused_stepped _ _ c.in_err-record.ensures.read _)

pub gather_of-requires : goal.gather_of-requires
gather_of-requires c = read_fits _ c.in_ok-record.ensures.read

pub returns : goal.returns
returns c = written_stepped _ _ c.in_ok-record.ensures.read _ c.gather_of.ensures
