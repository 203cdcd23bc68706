use Rattle.questions.proofs.Prelude.{arith, needs}
use Rattle.questions.proofs.Face.{taken_start, taken_more, taken_end, words_within}
use Rattle.questions.proofs.words.take_words.Goals as goal

pub loop-i-init : goal.loop-i-init
loop-i-init c = taken_start c.requires

pub bounds-words-i : goal.bounds-words-i
bounds-words-i c = omega (arith, words_within c.loop-i.invariant.whole c.loop-i-test.true)

pub bounds-words-i-in-loop-i : goal.bounds-words-i-in-loop-i
bounds-words-i-in-loop-i c = omega (arith, words_within c.loop-i.invariant.whole c.loop-i-test.true)

pub loop-i-preserved : goal.loop-i-preserved
loop-i-preserved c = search (taken_more, needs)

pub returns : goal.returns
returns c = search (taken_end, needs)
