use Rattle.reading.proofs.Prelude.{refl, table, needs}
use Rattle.reading.proofs.Face.{room_left, Turn, taken, next_fits, next_there, next_less}
use Rattle.reading.proofs.reader.read_tables.Goals as goal

pub with_table-taken-requires : goal.with_table-taken-requires
with_table-taken-requires c =
    let took : Turn c.loop-inputs.invariant = (_, taken table _ _ _ _ c.loop-inputs.invariant c.in-Table.is refl) in
    room_left table took.1.leads.read.in_place

pub place-progress-requires : goal.place-progress-requires
place-progress-requires c = search (next_fits table, needs)

pub loop-inputs-smaller : goal.loop-inputs-smaller
loop-inputs-smaller c = search (next_less table, needs)

pub loop-inputs-preserved : goal.loop-inputs-preserved
loop-inputs-preserved c = search (next_there table, needs)
