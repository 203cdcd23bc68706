use Rattle.narrowing.proofs.Prelude.{needs}
use Rattle.narrowing.proofs.Face.{holding_start, holding_next, holding_end}
use Rattle.atoms.proofs.EachAtom.{each_of}
use Rattle.narrowing.proofs.loops.held_on_all.Goals as goal

pub loop-rule-init : goal.loop-rule-init
loop-rule-init c = rw (each_of c.into_iter-rule-iterator.ensures.into_iter_gives c.each-rule-items.ensures) holding_start

pub loop-rule-preserved : goal.loop-rule-preserved
loop-rule-preserved c = search (holding_next, c.in-Some.ensures, needs)

pub returns : goal.returns
returns c = search (holding_end, c.in-None.ensures, needs)
