-- `read_givens` meets its contract: behind a GIVEN comes no second one, so one look is enough.
use Rattle.reading.proofs.Prelude.{single, given, needs}
use Rattle.reading.proofs.Face.{next_fits, next_there}
use Rattle.reading.proofs.reader.read_givens.Goals as goal

pub place-requires : goal.place-requires
place-requires c = search (next_fits (single given), needs)

pub returns : goal.returns
returns c = search (next_there (single given), needs)
