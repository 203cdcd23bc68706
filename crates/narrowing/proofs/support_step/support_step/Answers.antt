-- No rule is left, or one alone of an atom that is up.
use Rattle.narrowing.proofs.Prelude.{needs}
use Rattle.narrowing.proofs.Face.{none_left, one_left, others_lent}
use Rattle.narrowing.proofs.support_step.support_step.Goals as goal

pub returns-then-left-eq0 : goal.returns-then-left-eq0
returns-then-left-eq0 c = search (none_left, needs)

pub supporters-others-requires : goal.supporters-others-requires
supporters-others-requires c = search (others_lent, needs)

pub returns : goal.returns
returns c = search (one_left, needs)
