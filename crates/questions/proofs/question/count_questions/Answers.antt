-- The callees' promises put together: refused, or the counts filled in.
use Rattle.questions.proofs.Prelude.{needs}
use Rattle.questions.proofs.Face.{refused, filled}
use Rattle.questions.proofs.question.count_questions.Goals as goal

pub returns-then-n-gt-MAX_QUESTIONS : goal.returns-then-n-gt-MAX_QUESTIONS
returns-then-n-gt-MAX_QUESTIONS c = search (refused, needs)

pub returns : goal.returns
returns c = search (filled, needs)
