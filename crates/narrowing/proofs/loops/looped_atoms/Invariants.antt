-- The loop carries that every set that holds itself up is within. The measure is how many atoms are left.
use Rattle.narrowing.proofs.Prelude.{ones, HeldAmong}
use Rattle.narrowing.proofs.Face.{Above}
use Rattle.narrowing.proofs.loops.looped_atoms.Given as goal

abbrev pub invariant-loop-held : goal.invariant-loop-held
invariant-loop-held l = HeldAmong l.rules l.which l.within l.held × Above l.rules l.which l.within

abbrev pub decreases-loop-held : goal.decreases-loop-held
decreases-loop-held l = ones l.within
