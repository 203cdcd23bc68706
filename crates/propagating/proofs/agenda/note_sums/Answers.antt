-- Two parity tables or more are noted; fewer are not.
use Rattle.propagating.proofs.Prelude.{needs}
use Rattle.propagating.proofs.Face.{sums_added, sums_left}
use Rattle.propagating.proofs.agenda.note_sums.Goals as goal

pub returns-then-at_most_one : goal.returns-then-at_most_one
returns-then-at_most_one c = search (sums_left, needs)

pub returns : goal.returns
returns c = search (sums_added, needs)
