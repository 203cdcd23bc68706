-- The loop gathers the places of the tables below t.
use Rattle.propagating.proofs.Prelude.{Collects, TablePlace}
use Rattle.propagating.proofs.agenda.table_places.Given as goal

abbrev pub invariant-loop-t : goal.invariant-loop-t
invariant-loop-t l = Collects (TablePlace l.fn.pilots l.t) l.places
