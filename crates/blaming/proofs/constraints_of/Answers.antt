use Rattle.blaming.proofs.Prelude.{needs, sifts_start, sifts_end, taken_lent}
use Rattle.blaming.proofs.Face.{sifts_unless}
use Rattle.atoms.proofs.EachAtom.{each_of}
use Rattle.blaming.proofs.constraints_of.Goals as goal

pub loop-rule-init : goal.loop-rule-init
loop-rule-init c = rw (each_of c.into_iter-rule-iterator.ensures.into_iter_gives c.each-rule-items.ensures) sifts_start

pub unless_headed-word-requires : goal.unless_headed-word-requires
unless_headed-word-requires c =
    (c.requires.each _ (taken_lent c.loop-rule.invariant.within c.in-Some.ensures.steps.lowest), c.in-Some.ensures.steps.few)

pub loop-rule-preserved : goal.loop-rule-preserved
loop-rule-preserved c =
    sifts_unless _ c.loop-rule.invariant c.in-Some.ensures.steps.lowest c.in-Some.ensures.steps.less c.unless_headed-word.ensures

pub returns : goal.returns
returns c = search (sifts_end, needs)
