-- `read_uses` meets its contract. The invariant: reading on from the place that is reached gives what reading from the start gives.
-- The measure is what is left of the bytes.
use Rattle.reading.proofs.Prelude.{◌-◌, length, usage, Reached}
use Rattle.reading.proofs.reader.read_uses.Given as goal

abbrev pub invariant-loop-rule : goal.invariant-loop-rule
invariant-loop-rule l = Reached usage l.bytes l.progress

abbrev pub decreases-loop-rule : goal.decreases-loop-rule
decreases-loop-rule l = length l.bytes - l.progress.at
