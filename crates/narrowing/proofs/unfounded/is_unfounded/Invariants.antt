-- The rules that are done can do without the atoms.
use Rattle.narrowing.proofs.Prelude.{Taking, Spares}
use Rattle.narrowing.proofs.unfounded.is_unfounded.Given as goal

abbrev pub invariant-loop-rule : goal.invariant-loop-rule
invariant-loop-rule l = Taking l.fn.which l.rule-iterator.rest (λ r. Spares l.fn.rules r l.fn.x l.fn.s)
