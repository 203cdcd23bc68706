use Rattle.questions.proofs.Face.{taken_out_start, taken_out_more, taken_out_end}
use Rattle.questions.proofs.question.words_of.Goals as goal

pub loop-i-init : goal.loop-i-init
loop-i-init c = taken_out_start c.requires

pub loop-i-preserved : goal.loop-i-preserved
loop-i-preserved c = taken_out_more c.loop-i.invariant c.loop-i-test.true

pub returns : goal.returns
returns c = taken_out_end c.loop-i.invariant c.loop-i-test.false
