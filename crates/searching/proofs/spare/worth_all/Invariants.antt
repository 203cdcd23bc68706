-- The rules that are left are rules of the word, and what was taken are tables.
use Rattle.searching.proofs.Prelude.{◌<◌, ◌^◌, ◌⊆◌, MAX_TABLES}
use Rattle.searching.proofs.spare.worth_all.Given as goal

abbrev pub invariant-loop-rule : goal.invariant-loop-rule
invariant-loop-rule l = (l.rule-iterator.rest ⊆ l.fn.which) × (l.tables < 2 ^ MAX_TABLES)
