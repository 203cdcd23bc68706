-- `empty_plan` meets its contract: all zero.
use Rattle.plan.proofs.Prelude.{needs, empty_plan}
use Rattle.plan.proofs.record.empty_plan.Goals as goal

pub returns : goal.returns
unfolding empty_plan
returns c = search needs
