-- The laws of this crate that the proofs of its functions name, each with its home.
pub use Rattle.reading.proofs.Commands.{kind_there, no_byte_there, no_kind_there, room_left}
pub use Rattle.reading.proofs.Edges.{has_by_subset}
pub use Rattle.reading.proofs.Groups.{Turn, accepted_here, edge_there, next_fits, next_less, next_there, passed_by, place_is, refused_here, start}
pub use Rattle.reading.proofs.Groups.{taken, taken_fits, taken_there, use_there}
pub use Rattle.reading.proofs.Limits.{all_bytes, empty_fits}
pub use Rattle.reading.proofs.RowsInTurn.{contradictory_refused, edge_read, edge_refused, empty_refused, full_row, late_row, short_row, table_read}
pub use Rattle.reading.proofs.RowsInTurn.{table_refused, unit_read, unit_refused, use_read, use_refused}
