-- The loop drops from the word the rules whose body fails.
use Rattle.answer_sets.proofs.Prelude.{Sifts, Body, lent}
use Rattle.answer_sets.proofs.reduct.kept_rules.Given as goal

abbrev pub invariant-loop-rule : goal.invariant-loop-rule
invariant-loop-rule l = Sifts (λ r. Body (lent l.fn.rules) r l.fn.position) l.fn.which l.word l.rule-iterator.rest
