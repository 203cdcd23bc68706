-- The pair stays, or it is lifted.
use Rattle.explaining.proofs.Prelude.{lifted_start}
use Rattle.explaining.proofs.lift.lift_unless_clash.Goals as goal

pub returns-then-not-are_apart : goal.returns-then-not-are_apart
returns-then-not-are_apart c = lifted_start
