-- The loop adds what each list wakes.
use Rattle.propagating.proofs.Prelude.{Adding, WakesList}
use Rattle.propagating.proofs.agenda.note_lists.Given as goal

abbrev pub invariant-loop-v : goal.invariant-loop-v
invariant-loop-v l = Adding (WakesList l.fn.heads) l.fn.near l.v-iterator.rest l.initial.index l.index
