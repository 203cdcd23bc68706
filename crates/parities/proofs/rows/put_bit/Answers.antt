-- The bit is set or not.
use Rattle.parities.proofs.Prelude.{needs}
use Rattle.parities.proofs.Face.{bit_one_put, bit_none_put}
use Rattle.parities.proofs.rows.put_bit.Goals as goal

pub returns-then-bit-eq0 : goal.returns-then-bit-eq0
returns-then-bit-eq0 c = search (bit_none_put, needs)

pub returns : goal.returns
returns c = search (bit_one_put, needs)
