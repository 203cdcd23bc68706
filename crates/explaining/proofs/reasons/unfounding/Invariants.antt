-- What is left are rules of the word.
use Rattle.explaining.proofs.Prelude.{◌⊆◌}
use Rattle.explaining.proofs.reasons.unfounding.Given as goal

abbrev pub invariant-loop-rule : goal.invariant-loop-rule
invariant-loop-rule l = l.rule-iterator.rest ⊆ l.fn.which
