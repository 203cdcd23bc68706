use Rattle.narrowing.proofs.Prelude.{needs}
use Rattle.narrowing.proofs.Face.{adding_start, adding_next, adding_end}
use Rattle.atoms.proofs.EachAtom.{each_of}
use Rattle.narrowing.proofs.woken.note_rules.Goals as goal

pub loop-rule-init : goal.loop-rule-init
loop-rule-init c = rw (each_of c.into_iter-rule-iterator.ensures.into_iter_gives c.each-rule-items.ensures) adding_start

pub loop-rule-preserved : goal.loop-rule-preserved
loop-rule-preserved c = search (adding_next, c.in-Some.ensures, needs)

pub returns : goal.returns
returns c = adding_end c.loop-rule.invariant c.in-None.ensures.steps.0
