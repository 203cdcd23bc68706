use Rattle.answer_sets.proofs.Prelude.{sifts_end}
use Rattle.answer_sets.proofs.Face.{sifts_kept_if, kept_collected}
use Rattle.answer_sets.proofs.reduct.kept_rules.Goals as goal

pub loop-rule-preserved : goal.loop-rule-preserved
loop-rule-preserved c =
    sifts_kept_if _ c.loop-rule.invariant c.in-Some.ensures.steps.lowest c.in-Some.ensures.steps.less
    c.kept_if-word.ensures

pub returns : goal.returns
returns c = kept_collected _ c.ranges.which.fits (sifts_end c.loop-rule.invariant c.in-None.ensures.steps.0)
