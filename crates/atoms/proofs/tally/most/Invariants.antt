-- The invariant: some of the atoms are left, those with the highest count in the places that were looked at.
use Rattle.atoms.proofs.Prelude.{◌-◌, length, drop, SomeOf, MostCounted}
use Rattle.atoms.proofs.tally.most.Given as goal

abbrev pub invariant-loop-place : goal.invariant-loop-place
invariant-loop-place l = SomeOf l.fn.word l.best × MostCounted (drop (length l.fn.places - length l.yielded) l.fn.places) l.fn.word l.best
