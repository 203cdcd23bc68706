-- What is left are rules of the word.
use Rattle.narrowing.proofs.Prelude.{◌⊆◌}
use Rattle.narrowing.proofs.founded_step.found_by_all.Given as goal

abbrev pub invariant-loop-rule : goal.invariant-loop-rule
invariant-loop-rule l = l.rule-iterator.rest ⊆ l.fn.which
