-- The rule is one of those numbered.
use Rattle.narrowing.proofs.Prelude.{numbered_by}
use Rattle.narrowing.proofs.Face.{rule_narrows}
use Rattle.narrowing.proofs.steps.apply_rule.Goals as goal

pub rule_step-requires : goal.rule_step-requires
rule_step-requires c = c.requires.0.each _ (numbered_by _ _ c.single.ensures c.are_apart.ensures c.if-are_apart.false)

pub returns : goal.returns
returns c =
    rule_narrows c.args.rules.now
    (numbered_by _ _ c.single.ensures c.are_apart.ensures c.if-are_apart.false) c.rule_step.ensures.narrows
