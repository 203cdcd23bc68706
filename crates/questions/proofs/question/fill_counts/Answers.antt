use Rattle.questions.proofs.Prelude.{arith, needs}
use Rattle.questions.proofs.Face.{filled_more, filled_end}
use Rattle.questions.proofs.question.fill_counts.Goals as goal

pub loop-i-preserved : goal.loop-i-preserved
loop-i-preserved c = search (filled_more, needs)

pub returns : goal.returns
returns c = filled_end c.loop-i.invariant (omega arith)
