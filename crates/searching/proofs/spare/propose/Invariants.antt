-- The tables that are left are tables of the word.
use Rattle.searching.proofs.Prelude.{◌⊆◌}
use Rattle.searching.proofs.spare.propose.Given as goal

abbrev pub invariant-loop-t : goal.invariant-loop-t
invariant-loop-t l = l.t-iterator.a.rest ⊆ l.fn.tables
