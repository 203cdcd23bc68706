-- Atom 0 goes into both words.
use Rattle.states.proofs.Prelude.{clashed}
use Rattle.states.proofs.state.clash.Goals as goal

pub returns : goal.returns
unfolding clashed
returns c = rw (c.union-2.ensures, c.single-2.ensures, c.union.ensures, c.single.ensures)
