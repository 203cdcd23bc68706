-- The loop adds what each rule has woken.
use Rattle.narrowing.proofs.Prelude.{Wakes}
use Rattle.narrowing.proofs.Face.{Adding}
use Rattle.narrowing.proofs.woken.note_rules.Given as goal

abbrev pub invariant-loop-rule : goal.invariant-loop-rule
invariant-loop-rule l = Adding (Wakes l.fn.rules) l.fn.which l.rule-iterator.rest l.fn.table l.table
