-- `put_hexadecimal` meets its contract: the kit's digits are those of the definition.
use Rattle.sheet.proofs.Prelude.{ap, arith, length}
use Rattle.sheet.proofs.Face.{hexadecimal_made}
use Rattle.sheet.proofs.put_hexadecimal.Goals as goal

pub put-requires : goal.put-requires
put-requires c = omega (arith, ap length (hexadecimal_made c.args.word _ _ c.ranges.word.fits c.hex-digits.ensures.len c.hex-digits.ensures.digits))

pub returns : goal.returns
returns c = rw (hexadecimal_made _ _ _ c.ranges.word.fits c.hex-digits.ensures.len c.hex-digits.ensures.digits) at c.put.ensures
