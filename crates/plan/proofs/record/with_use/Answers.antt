-- `with_use` meets its contract.
use Rattle.plan.proofs.Prelude.{with_use}
use Rattle.plan.proofs.record.with_use.Goals as goal

pub returns : goal.returns
unfolding with_use
returns c = simp (← c.single-wanted.ensures, ← c.union.ensures)
