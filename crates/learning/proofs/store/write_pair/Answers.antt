-- Two writes, the second beside the first.
use Rattle.learning.proofs.Prelude.{refl, arith, ◌*◌, length-set}
use Rattle.learning.proofs.Face.{written}
use Rattle.learning.proofs.store.write_pair.Goals as goal

pub bounds-memory-i-2 : goal.bounds-memory-i-2
bounds-memory-i-2 c = omega (arith, c.requires, length-set c.args.memory.now (2 * c.args.i) c.args.n.up)

pub returns : goal.returns
returns c = record { written = written _ _ _ (omega (arith, c.requires)); is = refl }
