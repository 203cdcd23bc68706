-- What the proofs of this crate name of the kit, of the crates below and of its own definitions, each with its home.
pub mod Prelude
-- A COUNT changes no answer
pub mod Uncounted
-- How many commands of each kind a layout has, told from its bytes alone
pub mod Tally
-- "a plan sent over a noisy link lost one whole EDGE and still read well"
pub mod Lost
