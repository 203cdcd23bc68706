-- The loop carries what the rules that are done hold.
use Rattle.narrowing.proofs.Face.{Holding}
use Rattle.narrowing.proofs.loops.held_on_all.Given as goal

abbrev pub invariant-loop-rule : goal.invariant-loop-rule
invariant-loop-rule l = Holding l.fn.rules l.fn.which l.fn.within l.rule-iterator.rest l.held
