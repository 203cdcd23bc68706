-- `with_edge` meets its contract.
use Rattle.plan.proofs.Prelude.{with_edge}
use Rattle.plan.proofs.record.with_edge.Goals as goal

pub returns : goal.returns
unfolding with_edge
returns c = simp (← c.single.ensures, ← c.union.ensures)
