use Rattle.parities.proofs.Prelude.{◌≡◌, carrying_start, carrying_next, taken_lent, needs}
use Rattle.parities.proofs.Face.{gathered_refl, gathered_trans, gathered_for}
use Rattle.parities.proofs.sums.gather_all_told.Goals as goal

pub loop-rule-init : goal.loop-rule-init
loop-rule-init c = carrying_start gathered_refl

pub gather_told-sums-requires : goal.gather_told-sums-requires
gather_told-sums-requires c =
    let all : c.into_iter-rule-iterator.result.rest ≡ c.telling_rules.result = cc in
    let k = c.telling_rules.ensures.each _ (rw all at (taken_lent c.loop-rule.invariant.within c.in-Some.ensures.steps.lowest)) in
    (c.requires.0.each _ k.0, k.1, search needs)

pub loop-rule-preserved : goal.loop-rule-preserved
loop-rule-preserved c =
    let all : c.into_iter-rule-iterator.result.rest ≡ c.telling_rules.result = cc in
    let t = c.in-Some.ensures.steps in
    carrying_next c.loop-rule.invariant t.lowest t.less
    (λ h f. gathered_trans f (gathered_for (λ N k. k.each _ (c.telling_rules.ensures.each _ (rw all at h)).0) c.gather_told-sums.ensures))
