use Rattle.atoms.proofs.Prelude.{arith}
use Rattle.atoms.proofs.Face.{counts_small}
use Rattle.atoms.proofs.count.Goals as goal

pub overflow_cast-result : goal.overflow_cast-result
overflow_cast-result c = omega (arith, counts_small c.args.w c.ranges.w.fits)
