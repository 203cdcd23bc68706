use Rattle.propagating.proofs.Prelude.{needs, taken_lent, adding_start, adding_next, adding_end}
use Rattle.atoms.proofs.EachAtom.{each_of}
use Rattle.propagating.proofs.Face.{founded_added}
use Rattle.propagating.proofs.agenda.note_founded.Goals as goal

pub loop-rule-init : goal.loop-rule-init
loop-rule-init c = (rw (each_of c.into_iter-rule-iterator.ensures.into_iter_gives c.each-rule-items.ensures) adding_start, search needs)

pub looped_rule-requires : goal.looped_rule-requires
looped_rule-requires c = c.requires.0.each _ (taken_lent c.loop-rule.invariant.0.within c.in-Some.ensures.steps.lowest)

pub loop-rule-preserved : goal.loop-rule-preserved
loop-rule-preserved c = search (adding_next, founded_added, c.in-Some.ensures, needs)

pub returns : goal.returns
returns c = adding_end c.loop-rule.invariant.0 c.in-None.ensures.steps.0
