-- The atom is no input, so that its backers hold it.
use Rattle.narrowing.proofs.Prelude.{not-false, lacked_by, needs}
use Rattle.narrowing.proofs.Face.{support_narrows}
use Rattle.narrowing.proofs.steps.apply_support.Goals as goal

pub returns : goal.returns
returns c = search (support_narrows, lacked_by, not-false, needs)
