-- `read_shows` meets its contract: behind a SHOW comes no second one, so one look is enough.
use Rattle.reading.proofs.Prelude.{single, show, needs}
use Rattle.reading.proofs.Face.{next_fits, next_there}
use Rattle.reading.proofs.reader.read_shows.Goals as goal

pub place-requires : goal.place-requires
place-requires c = search (next_fits (single show), needs)

pub returns : goal.returns
returns c = search (next_there (single show), needs)
