-- The rules to come are rules of the word.
use Rattle.answer_sets.proofs.Prelude.{◌⊆◌}
use Rattle.answer_sets.proofs.tried.most_wanted.Given as goal

abbrev pub invariant-loop-rule : goal.invariant-loop-rule
invariant-loop-rule l = l.rule-iterator.rest ⊆ l.fn.which
