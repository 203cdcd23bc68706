-- The loop carries the word of those tables that are done.
use Rattle.parities.proofs.Prelude.{ParityTable}
use Rattle.parities.proofs.Face.{Found}
use Rattle.parities.proofs.tables.parity_tables.Given as goal

abbrev pub invariant-loop-t : goal.invariant-loop-t
invariant-loop-t l = Found (ParityTable l.fn.rules l.fn.pilots) l.t l.which
