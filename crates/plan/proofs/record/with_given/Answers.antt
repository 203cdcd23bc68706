-- `with_given` meets its contract: the word and its count, and all else as it was.
use Rattle.plan.proofs.Prelude.{needs, with_given}
use Rattle.plan.proofs.record.with_given.Goals as goal

pub returns : goal.returns
unfolding with_given
returns c = search needs
