-- The rules that are done are not wide.
use Rattle.narrowing.proofs.Prelude.{Taking, IsWide}
use Rattle.narrowing.proofs.choice.some_wide.Given as goal

abbrev pub invariant-loop-rule : goal.invariant-loop-rule
invariant-loop-rule l = Taking l.fn.which l.rule-iterator.rest (λ r. ¬ IsWide l.fn.rules r l.fn.s)
