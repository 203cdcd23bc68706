-- One word, written where there is room.
use Rattle.exports.proofs.Prelude.{needs}
use Rattle.exports.proofs.Face.{first_word}
use Rattle.exports.proofs.NextCodes.{no_room}
use Rattle.exports.proofs.steps.hand_word.Goals as goal

pub returns-then-found-eq0 : goal.returns-then-found-eq0
returns-then-found-eq0 c = search (no_room, needs)

pub returns : goal.returns
returns c = search (first_word, needs)
