-- The first k rows are written (Filling).
use Rattle.relay_rows.proofs.Prelude.{ATOMS, exchanged_word}
use Rattle.relay_rows.proofs.Face.{Filling}
use Rattle.relay_rows.proofs.block.exchange.Given as goal

abbrev pub invariant-loop-k : goal.invariant-loop-k
invariant-loop-k l = Filling ATOMS (exchanged_word l.e l.block) l.initial.exchanged l.exchanged l.k
