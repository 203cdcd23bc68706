-- The rules that are left are rules of the word.
use Rattle.searching.proofs.Prelude.{◌⊆◌}
use Rattle.searching.proofs.spare.all_atoms.Given as goal

abbrev pub invariant-loop-rule : goal.invariant-loop-rule
invariant-loop-rule l = l.rule-iterator.rest ⊆ l.fn.which
