use Rattle.searching.proofs.Prelude.{taking_next}
use Rattle.searching.proofs.Face.{rule_clear}
use Rattle.searching.proofs.spare.in_no_rule.Goals as goal

pub loop-rule-preserved : goal.loop-rule-preserved
loop-rule-preserved c =
    let t = c.in-Some.ensures.steps in
    taking_next c.loop-rule.invariant t.lowest t.less (λ j d. d) (rule_clear c.rule_atoms.ensures c.are_apart.ensures c.if-not-are_apart.false)
