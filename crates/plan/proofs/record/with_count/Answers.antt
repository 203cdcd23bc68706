-- `with_count` meets its contract: the three numbers and that they are declared, and all else as it was.
use Rattle.plan.proofs.Prelude.{needs, with_count}
use Rattle.plan.proofs.record.with_count.Goals as goal

pub returns : goal.returns
unfolding with_count
returns c = search needs
