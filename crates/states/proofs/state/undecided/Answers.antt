-- Every atom, less those that are up and those that are dropped.
use Rattle.states.proofs.Prelude.{undecided}
use Rattle.states.proofs.state.undecided.Goals as goal

pub returns : goal.returns
unfolding undecided
returns c = rw (c.without.ensures, c.outside.ensures)
