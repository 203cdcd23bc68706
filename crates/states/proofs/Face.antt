-- The laws of this crate that the proofs of its functions name, each with its home.
pub use Rattle.states.proofs.Branches.{all_decided}
pub use Rattle.states.proofs.OneAtom.{last_goes, none_goes, several}
