-- `read_rules` meets its contract. The invariant: reading on from the place that is reached gives what reading from the start gives.
-- The measure is what is left of the bytes.
use Rattle.reading.proofs.Prelude.{◌-◌, length, rule, Reached}
use Rattle.reading.proofs.reader.read_rules.Given as goal

abbrev pub invariant-loop-head : goal.invariant-loop-head
invariant-loop-head l = Reached rule l.bytes l.progress

abbrev pub decreases-loop-head : goal.decreases-loop-head
decreases-loop-head l = length l.bytes - l.progress.at
