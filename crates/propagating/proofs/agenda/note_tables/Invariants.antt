-- The loop adds what each table wakes.
use Rattle.propagating.proofs.Prelude.{AddsAt, WakesTables}
use Rattle.propagating.proofs.agenda.note_tables.Given as goal

abbrev pub invariant-loop-t : goal.invariant-loop-t
invariant-loop-t l = AddsAt (WakesTables l.fn.linked l.fn.pilots l.t) l.initial.index l.index
