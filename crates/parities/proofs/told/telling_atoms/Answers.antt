use Rattle.parities.proofs.Prelude.{◌≡◌, needs}
use Rattle.parities.proofs.Face.{told_start, told_numbered, told_next, told_end}
use Rattle.parities.proofs.told.telling_atoms.Goals as goal

pub loop-rule-init : goal.loop-rule-init
loop-rule-init c =
    let all : c.into_iter-rule-iterator.result.rest ≡ c.telling_rules.result = cc in
    rw all (told_start c.ranges.which.fits c.telling_rules.ensures)

pub rule_atoms-requires : goal.rule_atoms-requires
rule_atoms-requires c = c.requires.each _ (told_numbered c.loop-rule.invariant c.in-Some.ensures.steps.lowest)

pub loop-rule-preserved : goal.loop-rule-preserved
loop-rule-preserved c = search (told_next, c.in-Some.ensures, needs)

pub returns : goal.returns
returns c = search (told_end, c.in-None.ensures, needs)
