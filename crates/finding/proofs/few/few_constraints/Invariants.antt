-- What is held leaves no answer set, and without one that was tried and kept there is one.
use Rattle.finding.proofs.Face.{HeldSoFar}
use Rattle.finding.proofs.few.few_constraints.Given as goal

abbrev pub invariant-loop-c : goal.invariant-loop-c
invariant-loop-c l = HeldSoFar l.fn.rules l.fn.headed l.fn.constraints l.fn.facts l.held l.c-iterator.rest
