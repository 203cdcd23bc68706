-- The loop carries that what is told so far is of tables with a pilot.
use Rattle.pilots.proofs.Prelude.{ToldUses}
use Rattle.pilots.proofs.link.told_uses.Given as goal

abbrev pub invariant-loop-t : goal.invariant-loop-t
invariant-loop-t l = ToldUses l.fn.pilots l.told
