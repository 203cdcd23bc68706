use Rattle.atoms.proofs.Prelude.{arith}
use Rattle.atoms.proofs.Face.{counts_small, trailing_lowest, has_lt}
use Rattle.atoms.proofs.lowest.Goals as goal

pub overflow_cast-result : goal.overflow_cast-result
overflow_cast-result c = omega (arith, counts_small c.args.w c.ranges.w.fits)

pub returns : goal.returns
returns c =
    let low = trailing_lowest 64 c.args.w c.requires c.ranges.w.fits in
    (low, has_lt c.args.w 64 c.ranges.w.fits low.here)
