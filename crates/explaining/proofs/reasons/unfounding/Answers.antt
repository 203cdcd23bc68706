use Rattle.explaining.proofs.Prelude.{subset_refl, taken_within, taken_lent}
use Rattle.atoms.proofs.EachAtom.{each_of}
use Rattle.explaining.proofs.reasons.unfounding.Goals as goal

pub loop-rule-init : goal.loop-rule-init
loop-rule-init c = rw (each_of c.into_iter-rule-iterator.ensures.into_iter_gives c.each-rule-items.ensures) subset_refl

pub unfounded_by-seen-requires : goal.unfounded_by-seen-requires
unfounded_by-seen-requires c = c.requires.each _ (taken_lent c.loop-rule.invariant c.in-Some.ensures.steps.lowest)

pub loop-rule-preserved : goal.loop-rule-preserved
loop-rule-preserved c = taken_within c.loop-rule.invariant c.in-Some.ensures.steps.lowest c.in-Some.ensures.steps.less
