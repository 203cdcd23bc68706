-- The loop carries that the rules that are done have none of the atoms.
use Rattle.searching.proofs.Prelude.{Taking}
use Rattle.searching.proofs.Face.{Clear}
use Rattle.searching.proofs.spare.in_no_rule.Given as goal

abbrev pub invariant-loop-rule : goal.invariant-loop-rule
invariant-loop-rule l = Taking l.fn.which l.rule-iterator.rest (Clear l.fn.rules l.fn.x)
