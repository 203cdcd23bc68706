-- The first k words are read (Reading).
use Rattle.relay_rows.proofs.Face.{Reading}
use Rattle.relay_rows.proofs.strided.read_block.Given as goal

abbrev pub invariant-loop-k : goal.invariant-loop-k
invariant-loop-k l = Reading l.area l.at l.stride l.mask l.n l.block l.k
