-- The laws of this crate that the proofs of its functions name, each with its home.
pub use Rattle.stepping.proofs.Batches.{refused_stepped, written_stepped}
