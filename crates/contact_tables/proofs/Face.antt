-- The laws of this crate that the proofs of its functions name, each with its home.
pub use Rattle.contact_tables.proofs.Columns.{column_collects, sifted_dropped, sifted_open, sifted_up, test_has, test_lacks}
