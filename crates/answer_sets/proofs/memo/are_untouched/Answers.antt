use Rattle.answer_sets.proofs.Prelude.{not-false, taking_next, needs}
use Rattle.answer_sets.proofs.Face.{untouched_rule}
use Rattle.answer_sets.proofs.memo.are_untouched.Goals as goal

pub loop-rule-preserved : goal.loop-rule-preserved
loop-rule-preserved c = search (taking_next, untouched_rule, not-false, c.in-Some.ensures, needs)
