-- `with_unit` meets its contract: its word stands behind the units that are there.
use Rattle.plan.proofs.Prelude.{with_unit, needs}
use Rattle.plan.proofs.record.with_unit.Goals as goal

pub returns : goal.returns
unfolding with_unit
returns c = search needs
