-- The laws of this crate that the proofs of its functions name, each with its home.
pub use Rattle.unit_lists.proofs.Joined.{cuts_stored, searchable, unit_stored}
pub use Rattle.unit_lists.proofs.LastUnit.{heads_of_last, last_listable, last_told, unit_listable}
