use Rattle.reading.proofs.Prelude.{refl, unit, needs}
use Rattle.reading.proofs.Face.{room_left, Turn, taken, next_fits, next_there, next_less}
use Rattle.reading.proofs.reader.read_units.Goals as goal

pub with_unit-taken-requires : goal.with_unit-taken-requires
with_unit-taken-requires c =
    let took : Turn c.loop-word.invariant = (_, taken unit _ _ _ _ c.loop-word.invariant c.in-Unit.is refl) in
    room_left unit took.1.leads.read.in_place

pub place-progress-requires : goal.place-progress-requires
place-progress-requires c = search (next_fits unit, needs)

pub loop-word-smaller : goal.loop-word-smaller
loop-word-smaller c = search (next_less unit, needs)

pub loop-word-preserved : goal.loop-word-preserved
loop-word-preserved c = search (next_there unit, needs)
