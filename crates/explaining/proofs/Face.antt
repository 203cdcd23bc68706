-- The laws of this crate that the proofs of its functions name, each with its home.
pub use Rattle.explaining.proofs.ToldClaims.{told_on, told_own}
