-- What the search found, or that it found nothing.
use Rattle.answer_sets.proofs.Prelude.{needs}
use Rattle.answer_sets.proofs.Face.{all_unless_found}
use Rattle.answer_sets.proofs.reduct.all_satisfied.Goals as goal

pub returns : goal.returns
returns c = search (all_unless_found, needs)
