-- `put_decimal` meets its contract: the kit's digits are those of the definition.
use Rattle.sheet.proofs.Prelude.{ap, arith, length}
use Rattle.sheet.proofs.Face.{decimal_made}
use Rattle.sheet.proofs.put_decimal.Goals as goal

pub put-requires : goal.put-requires
put-requires c = omega (arith, ap length (decimal_made c.args.n _ _ c.decimal-digits.ensures.len c.decimal-digits.ensures.digits))

pub returns : goal.returns
returns c = rw (decimal_made _ _ _ c.decimal-digits.ensures.len c.decimal-digits.ensures.digits) at c.put.ensures
