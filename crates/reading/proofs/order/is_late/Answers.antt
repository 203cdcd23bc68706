-- `is_late` meets its contract: it asks kind by kind, in the order of kinds; of END none is read.
use Rattle.reading.proofs.Prelude.{or_assoc, or-false, late}
use Rattle.reading.proofs.order.is_late.Goals as goal

pub returns : goal.returns
unfolding late
returns c = simp (or_assoc, or-false)
