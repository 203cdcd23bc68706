-- The loop takes the inputs from the lowest on, as long as a row has bits for them.
use Rattle.contact_tables.proofs.Prelude.{◌≡◌, ◌+◌, MAX_INPUTS}
use Rattle.contact_tables.proofs.ToldInputs.{Telling}
use Rattle.contact_tables.proofs.rows.told_inputs.Given as goal

abbrev pub invariant-loop-k : goal.invariant-loop-k
invariant-loop-k l =
    (l.k-iterator.count + l.k-iterator.iter.n ≡ MAX_INPUTS) × Telling l.fn.inputs l.fn.rows l.k-iterator.iter.iter.rest l.k-iterator.count l.up l.dropped
