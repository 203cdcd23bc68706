-- The loop carries that the rules left are all that may support the atom.
use Rattle.narrowing.proofs.Prelude.{Supporters}
use Rattle.narrowing.proofs.support_step.supporters.Given as goal

abbrev pub invariant-loop-rule : goal.invariant-loop-rule
invariant-loop-rule l = Supporters l.fn.rules l.fn.backing l.fn.atom l.fn.s l.rule-iterator.rest
