-- Above it stand the leading zeros.
use Rattle.atoms.proofs.Prelude.{arith}
use Rattle.atoms.proofs.Face.{leading_highest}
use Rattle.atoms.proofs.highest.Goals as goal

pub overflow_cast-result : goal.overflow_cast-result
overflow_cast-result c = omega (arith, (leading_highest c.args.w c.requires c.ranges.w.fits).1)

pub overflow_sub-result : goal.overflow_sub-result
overflow_sub-result c = omega (arith, (leading_highest c.args.w c.requires c.ranges.w.fits).1)

pub returns : goal.returns
returns c = let top = leading_highest c.args.w c.requires c.ranges.w.fits in (top.0, omega (arith, top.1))
