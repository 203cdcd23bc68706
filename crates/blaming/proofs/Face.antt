-- The laws of this crate that the proofs of its functions name, each with its home.
pub use Rattle.blaming.proofs.ConstraintSifting.{headed_goes, headless_stays, sifts_unless}
