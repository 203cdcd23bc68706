-- Free atoms of the head, else of the body.
use Rattle.answer_sets.proofs.Prelude.{needs}
use Rattle.answer_sets.proofs.Face.{candidates_head, candidates_body}
use Rattle.answer_sets.proofs.tried.candidates.Goals as goal

pub returns-then-heads-ne0 : goal.returns-then-heads-ne0
returns-then-heads-ne0 c = search (candidates_head, needs)

pub returns : goal.returns
returns c = search (candidates_body, needs)
