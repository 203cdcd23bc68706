-- `read_tables` meets its contract. The invariant: reading on from the place that is reached gives what reading from the start gives.
-- The measure is what is left of the bytes.
use Rattle.reading.proofs.Prelude.{◌-◌, length, table, Reached}
use Rattle.reading.proofs.reader.read_tables.Given as goal

abbrev pub invariant-loop-inputs : goal.invariant-loop-inputs
invariant-loop-inputs l = Reached table l.bytes l.progress

abbrev pub decreases-loop-inputs : goal.decreases-loop-inputs
decreases-loop-inputs l = length l.bytes - l.progress.at
