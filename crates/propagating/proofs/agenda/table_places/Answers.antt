use Rattle.propagating.proofs.Prelude.{needs}
use Rattle.propagating.proofs.Face.{places_start, places_next, places_end}
use Rattle.propagating.proofs.agenda.table_places.Goals as goal

pub loop-t-init : goal.loop-t-init
loop-t-init c = places_start

pub loop-t-preserved : goal.loop-t-preserved
loop-t-preserved c = search (places_next, needs)

pub returns : goal.returns
returns c = search (places_end, needs)
