-- The loop adds what each rule wakes.
use Rattle.propagating.proofs.Prelude.{◌≡◌, atom, Adding, FOUNDED_PLACE, WakesFounded}
use Rattle.propagating.proofs.agenda.note_founded.Given as goal

abbrev pub invariant-loop-rule : goal.invariant-loop-rule
invariant-loop-rule l = Adding (WakesFounded l.fn.rules l.fn.looped) l.fn.which l.rule-iterator.rest l.initial.index l.index × (l.founded ≡ atom FOUNDED_PLACE)
