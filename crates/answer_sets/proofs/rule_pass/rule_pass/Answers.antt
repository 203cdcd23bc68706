use Rattle.answer_sets.proofs.Prelude.{needs, taken_lent, carrying_more}
use Rattle.answer_sets.proofs.Face.{sifted_turn}
use Rattle.answer_sets.proofs.rule_pass.rule_pass.Goals as goal

pub loop-rule-preserved : goal.loop-rule-preserved
loop-rule-preserved c = search (carrying_more, sifted_turn, taken_lent, c.in-Some.ensures, needs)
