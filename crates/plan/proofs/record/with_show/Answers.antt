-- `with_show` meets its contract: the word and its count, and all else as it was.
use Rattle.plan.proofs.Prelude.{needs, with_show}
use Rattle.plan.proofs.record.with_show.Goals as goal

pub returns : goal.returns
unfolding with_show
returns c = search needs
