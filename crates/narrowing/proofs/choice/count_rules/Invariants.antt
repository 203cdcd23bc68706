-- The rules that are done are at no stop.
use Rattle.narrowing.proofs.Prelude.{Taking, AtStop}
use Rattle.narrowing.proofs.choice.count_rules.Given as goal

abbrev pub invariant-loop-rule : goal.invariant-loop-rule
invariant-loop-rule l = Taking l.fn.which l.rule-iterator.rest (λ r. ¬ AtStop l.fn.rules r l.fn.s)
