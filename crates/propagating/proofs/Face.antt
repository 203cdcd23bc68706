-- The laws of this crate that the proofs of its functions name, each with its home.
pub use Rattle.propagating.proofs.Agendas.{propagation_falls, woken_new, woken_none}
pub use Rattle.propagating.proofs.Desks.{laid_out, pilot_at, pilots_long}
pub use Rattle.propagating.proofs.WakeIndices.{founded_added, index_of, is_looped, list_added, not_looped, places_end, places_next, places_start}
pub use Rattle.propagating.proofs.WakeIndices.{sums_added, sums_left, table_added, table_left, tables_end, tables_next, tables_start, told_added}
pub use Rattle.propagating.proofs.WakeIndices.{told_left}
