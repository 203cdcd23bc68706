-- By how much room there is.
use Rattle.exports.proofs.Prelude.{needs}
use Rattle.exports.proofs.PairedWords.{no_room, room_for_one, room_for_two}
use Rattle.exports.proofs.pair.write_pair.Goals as goal

pub returns-then-found-eq0 : goal.returns-then-found-eq0
returns-then-found-eq0 c = search (no_room, needs)

pub returns-then-found-eq1 : goal.returns-then-found-eq1
returns-then-found-eq1 c = search (room_for_one, needs)

pub returns : goal.returns
returns c = search (room_for_two, needs)
