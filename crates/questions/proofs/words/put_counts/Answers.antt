use Rattle.questions.proofs.Prelude.{needs}
use Rattle.questions.proofs.Face.{putting_start, putting_more, putting_end, words_within}
use Rattle.questions.proofs.words.put_counts.Goals as goal

pub loop-i-init : goal.loop-i-init
loop-i-init c = search (putting_start, needs)

pub bounds-words-i : goal.bounds-words-i
bounds-words-i c = search (words_within, needs)

pub loop-i-preserved : goal.loop-i-preserved
loop-i-preserved c = search (putting_more, needs)

pub returns : goal.returns
returns c = search (putting_end, needs)
