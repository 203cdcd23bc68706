-- The loop takes the rules of the word: each that is done is satisfied.
use Rattle.answer_sets.proofs.Prelude.{Taking, Satisfies, lent}
use Rattle.answer_sets.proofs.reduct.find_unsatisfied.Given as goal

abbrev pub invariant-loop-rule : goal.invariant-loop-rule
invariant-loop-rule l = Taking l.fn.which l.rule-iterator.rest (λ r. Satisfies (lent l.fn.rules) r l.fn.position)
