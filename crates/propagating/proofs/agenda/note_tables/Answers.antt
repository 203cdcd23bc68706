use Rattle.propagating.proofs.Prelude.{needs}
use Rattle.propagating.proofs.Face.{tables_start, tables_next, tables_end}
use Rattle.propagating.proofs.agenda.note_tables.Goals as goal

pub loop-t-init : goal.loop-t-init
loop-t-init c = tables_start

pub loop-t-preserved : goal.loop-t-preserved
loop-t-preserved c = search (tables_next, needs)

pub returns : goal.returns
returns c = search (tables_end, needs)
