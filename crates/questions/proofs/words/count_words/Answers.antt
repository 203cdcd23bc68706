-- The callees' promises put together: refused, or the counts filled in.
use Rattle.questions.proofs.Prelude.{needs}
use Rattle.questions.proofs.Face.{whole_third, refused_words, filled_words}
use Rattle.questions.proofs.words.count_words.Goals as goal

pub returns-then-n-gt-MAX_QUESTIONS : goal.returns-then-n-gt-MAX_QUESTIONS
returns-then-n-gt-MAX_QUESTIONS c = search (refused_words, needs)

pub take_words-requires : goal.take_words-requires
take_words-requires c = search (whole_third, needs)

pub put_counts-requires : goal.put_counts-requires
put_counts-requires c = search (whole_third, needs)

pub returns : goal.returns
returns c = search (filled_words, whole_third, needs)
