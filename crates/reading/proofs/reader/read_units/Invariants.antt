-- `read_units` meets its contract. The invariant: reading on from the place that is reached gives what reading from the start gives.
-- The measure is what is left of the bytes.
use Rattle.reading.proofs.Prelude.{◌-◌, length, unit, Reached}
use Rattle.reading.proofs.reader.read_units.Given as goal

abbrev pub invariant-loop-word : goal.invariant-loop-word
invariant-loop-word l = Reached unit l.bytes l.progress

abbrev pub decreases-loop-word : goal.decreases-loop-word
decreases-loop-word l = length l.bytes - l.progress.at
