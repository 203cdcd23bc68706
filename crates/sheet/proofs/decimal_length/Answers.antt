-- `decimal_length` meets its contract: the kit's digits are those of the definition.
use Rattle.sheet.proofs.Face.{decimal_places}
use Rattle.sheet.proofs.decimal_length.Goals as goal

pub returns : goal.returns
returns c = decimal_places _ _ c.ranges.n.fits c.decimal.ensures.len
