-- Both words are tested.
use Rattle.narrowing.proofs.Prelude.{needs}
use Rattle.narrowing.proofs.UnfailedRules.{failed, unfailed}
use Rattle.narrowing.proofs.choice.is_unfailed.Goals as goal

pub returns-then-not-are_apart : goal.returns-then-not-are_apart
returns-then-not-are_apart c = search (failed, needs)

pub returns : goal.returns
returns c = search (unfailed, needs)
