-- Nothing completes a state with an atom up and dropped; of another one it is asked.
use Rattle.finding.proofs.Prelude.{needs}
use Rattle.finding.proofs.Face.{asked_none, asked_some, overlap_nothing}
use Rattle.finding.proofs.ask.ask.Goals as goal

pub returns-then-not-are_apart : goal.returns-then-not-are_apart
returns-then-not-are_apart c = search (overlap_nothing, needs)

pub returns-in_err-found-clause-witnessed : goal.returns-in_err-found-clause-witnessed
returns-in_err-found-clause-witnessed c = rw c.from_residual.ensures (asked_none (rw c.in_err-found.was at c.find.ensures.witnessed))

pub returns-clause-witnessed : goal.returns-clause-witnessed
returns-clause-witnessed c = asked_some c.in_ok-found.ensures.witnessed (rw c.without-hidden.ensures at c.without.ensures)
