-- The loop carries that the rules that are done are noted.
use Rattle.narrowing.proofs.Face.{Backing}
use Rattle.narrowing.proofs.backers.back_by_all.Given as goal

abbrev pub invariant-loop-rule : goal.invariant-loop-rule
invariant-loop-rule l = Backing l.fn.rules l.fn.which l.rule-iterator.rest l.fn.table l.table
