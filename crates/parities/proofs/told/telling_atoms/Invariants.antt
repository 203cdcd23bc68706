-- The loop gathers the atoms of the rules.
use Rattle.parities.proofs.Face.{GatheringTold}
use Rattle.parities.proofs.told.telling_atoms.Given as goal

abbrev pub invariant-loop-rule : goal.invariant-loop-rule
invariant-loop-rule l = GatheringTold l.fn.rules l.fn.which l.all l.rule-iterator.rest
