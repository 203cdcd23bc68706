-- The loop carries that the rules that are done are linked.
use Rattle.pilots.proofs.Face.{Linking}
use Rattle.pilots.proofs.link.link_all.Given as goal

abbrev pub invariant-loop-rule : goal.invariant-loop-rule
invariant-loop-rule l = Linking l.fn.rules l.fn.pilots l.fn.told l.fn.which l.rule-iterator.rest l.initial.linked l.linked
