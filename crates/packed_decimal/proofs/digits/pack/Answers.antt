-- Packed decimal digits fit their 16 bits.
use Rattle.packed_decimal.proofs.Prelude.{arith, DIGITS}
use Rattle.packed_decimal.proofs.Face.{packed_fits}
use Rattle.packed_decimal.proofs.digits.pack.Goals as goal

pub overflow_cast-result : goal.overflow_cast-result
overflow_cast-result c = record { fits = omega (arith, c.respell.ensures, packed_fits DIGITS c.args.x) }
