-- Two constraints that tell or more are noted; fewer are not.
use Rattle.propagating.proofs.Prelude.{needs}
use Rattle.propagating.proofs.Face.{told_added, told_left}
use Rattle.propagating.proofs.agenda.note_told.Goals as goal

pub returns-then-at_most_one : goal.returns-then-at_most_one
returns-then-at_most_one c = search (told_left, needs)

pub returns : goal.returns
returns c = search (told_added, needs)
