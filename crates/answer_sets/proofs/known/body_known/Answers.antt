-- The words alone where there are no uses, else the words and the uses.
use Rattle.answer_sets.proofs.Prelude.{needs}
use Rattle.answer_sets.proofs.Face.{up_apart, words_told, body_of_words}
use Rattle.answer_sets.proofs.known.body_known.Goals as goal

pub words_known-words-requires : goal.words_known-words-requires
words_known-words-requires c = search (up_apart, needs)

pub returns-then-uses-eq0 : goal.returns-then-uses-eq0
returns-then-uses-eq0 c = search (body_of_words, words_told, needs)
