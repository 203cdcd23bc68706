use Rattle.parities.proofs.Prelude.{◌≡◌, taken_lent, needs}
use Rattle.parities.proofs.Face.{chosen_start, chosen_next, chosen_end}
use Rattle.parities.proofs.told.telling_rules.Goals as goal

pub loop-rule-init : goal.loop-rule-init
loop-rule-init c =
    let all : c.into_iter-rule-iterator.result.rest ≡ c.args.which = cc in
    rw all chosen_start

pub is_telling-requires : goal.is_telling-requires
is_telling-requires c = c.requires.each _ (taken_lent c.loop-rule.invariant.within c.in-Some.ensures.steps.lowest)

pub loop-rule-preserved : goal.loop-rule-preserved
loop-rule-preserved c = search (chosen_next, c.in-Some.ensures, needs)

pub returns : goal.returns
returns c = chosen_end c.loop-rule.invariant c.in-None.ensures.steps.0
