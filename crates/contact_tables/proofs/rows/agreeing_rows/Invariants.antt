-- The loop takes the inputs from the lowest on, as long as a row has bits for them.
use Rattle.contact_tables.proofs.Prelude.{◌≡◌, ◌+◌, MAX_INPUTS}
use Rattle.contact_tables.proofs.RowSifting.{Sifting}
use Rattle.contact_tables.proofs.rows.agreeing_rows.Given as goal

abbrev pub invariant-loop-a : goal.invariant-loop-a
invariant-loop-a l = (l.k + l.a-iterator.n ≡ MAX_INPUTS) × Sifting l.fn.inputs l.fn.up l.fn.dropped l.rows l.a-iterator.iter.rest l.k
