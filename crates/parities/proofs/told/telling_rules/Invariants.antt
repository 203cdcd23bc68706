-- The loop carries the word of those rules that are done.
use Rattle.parities.proofs.Prelude.{TellsParity}
use Rattle.parities.proofs.Face.{Chosen}
use Rattle.parities.proofs.told.telling_rules.Given as goal

abbrev pub invariant-loop-rule : goal.invariant-loop-rule
invariant-loop-rule l = Chosen (TellsParity l.fn.rules) l.fn.which l.rule-iterator.rest l.telling
