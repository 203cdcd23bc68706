-- The loop gathers the atoms of the tables.
use Rattle.parities.proofs.Face.{Gathering}
use Rattle.parities.proofs.tables.parity_atoms.Given as goal

abbrev pub invariant-loop-t : goal.invariant-loop-t
invariant-loop-t l = Gathering l.fn.rules l.fn.pilots l.all l.t-iterator.rest
