-- The two words, put together.
use Rattle.answer_sets.proofs.Prelude.{needs}
use Rattle.answer_sets.proofs.Face.{words_say}
use Rattle.answer_sets.proofs.known.words_known.Goals as goal

pub returns : goal.returns
returns c = search (words_say, needs)
