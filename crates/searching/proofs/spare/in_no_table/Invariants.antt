-- The loop carries that the tables that are done have none of the atoms.
use Rattle.searching.proofs.Prelude.{NoInputs}
use Rattle.searching.proofs.spare.in_no_table.Given as goal

abbrev pub invariant-loop-t : goal.invariant-loop-t
invariant-loop-t l = NoInputs l.fn.rules l.fn.x l.t
