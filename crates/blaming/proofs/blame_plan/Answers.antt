-- What was read, the next position from the start, and what is held where there is none.
use Rattle.std.proofs.lemmas.Result.{err_from_is_err_and}
use Rattle.blaming.proofs.Prelude.{read_fits}
use Rattle.blaming.proofs.Results.{nobody_settles, refused_blamed, position_blamed, held_blamed}
use Rattle.blaming.proofs.blame_plan.Goals as goal

pub returns-in_err-read : goal.returns-in_err-read
returns-in_err-read c =
    let p = err_from_is_err_and c.from_residual.result c.from_residual.ensures.1 in
    rw (p.1, p.2) (refused_blamed _ c.in_err-read.ensures.read)

pub next_of-requires : goal.next_of-requires
next_of-requires c = read_fits _ c.in_ok-read.ensures.read

pub held_of-requires : goal.held_of-requires
held_of-requires c = (read_fits _ c.in_ok-read.ensures.read, nobody_settles c.in-None.ensures)

pub returns-in-Some : goal.returns-in-Some
returns-in-Some c = position_blamed _ c.in_ok-read.ensures.read c.in-Some.ensures

pub returns-in-None : goal.returns-in-None
returns-in-None c = held_blamed _ c.in_ok-read.ensures.read c.in-None.ensures c.held_of.ensures
