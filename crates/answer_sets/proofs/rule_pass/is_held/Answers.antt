-- Yes where the words hold and there are no uses, or the words and the uses hold.
use Rattle.answer_sets.proofs.Prelude.{needs}
use Rattle.answer_sets.proofs.Face.{held_known, up_apart, words_told, body_of_words}
use Rattle.answer_sets.proofs.rule_pass.is_held.Goals as goal

pub words_known-words-requires : goal.words_known-words-requires
words_known-words-requires c = search (up_apart, needs)

pub returns-then-uses-eq0 : goal.returns-then-uses-eq0
returns-then-uses-eq0 c = search (held_known, body_of_words, words_told, needs)
