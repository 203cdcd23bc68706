-- The atoms of either side are told by the rule's words.
use Rattle.narrowing.proofs.Prelude.{needs}
use Rattle.narrowing.proofs.WokenSteps.{rule_wakes}
use Rattle.narrowing.proofs.woken.note_rule.Goals as goal

pub returns : goal.returns
returns c = search (rule_wakes, needs)
