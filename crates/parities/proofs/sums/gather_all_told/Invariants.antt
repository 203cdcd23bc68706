-- The loop carries that the rows are right.
use Rattle.parities.proofs.Prelude.{Carrying, SatisfiesAll, lent, RowsGathered}
use Rattle.parities.proofs.sums.gather_all_told.Given as goal

abbrev pub invariant-loop-rule : goal.invariant-loop-rule
invariant-loop-rule l =
    Carrying l.initial.rule-iterator.rest l.rule-iterator.rest
    (RowsGathered (SatisfiesAll (lent l.fn.rules) l.fn.which) l.fn.s l.initial.words l.initial.sums l.words l.sums)
