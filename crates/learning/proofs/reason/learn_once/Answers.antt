-- Nothing is learnt, or the pair is; the scores stand behind the pairs.
use Rattle.learning.proofs.Prelude.{needs}
use Rattle.learning.proofs.Face.{keeps_refl, keeps_same, learnt_keeps, contradicts, names_many, worth_learning, once_before, once_not, once_now}
use Rattle.learning.proofs.reason.learn_once.Goals as goal

pub returns-then-learnt : goal.returns-then-learnt
returns-then-learnt c = search (keeps_refl, once_before, needs)

pub returns-then-not-are_apart : goal.returns-then-not-are_apart
returns-then-not-are_apart c = search (keeps_same, once_not, contradicts, needs)

pub returns-then-not-at_most_one : goal.returns-then-not-at_most_one
returns-then-not-at_most_one c = search (keeps_same, once_not, names_many, needs)

pub returns : goal.returns
returns c = record { keeps = search (learnt_keeps, needs); once = search (once_now, worth_learning, needs) }
