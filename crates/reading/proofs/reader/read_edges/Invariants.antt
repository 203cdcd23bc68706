-- `read_edges` meets its contract. The invariant: reading on from the place that is reached gives what reading from the start gives.
-- The measure is what is left of the bytes.
use Rattle.reading.proofs.Prelude.{◌-◌, length, edge, Reached}
use Rattle.reading.proofs.reader.read_edges.Given as goal

abbrev pub invariant-loop-u : goal.invariant-loop-u
invariant-loop-u l = Reached edge l.bytes l.progress

abbrev pub decreases-loop-u : goal.decreases-loop-u
decreases-loop-u l = length l.bytes - l.progress.at
