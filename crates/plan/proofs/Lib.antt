-- What the proofs of this crate name of the kit, of the crates below and of its own definitions, each with its home.
pub mod Prelude
-- The number of a fault fits the 16 bits above those of its spot
pub mod Faults
-- A refusal is told by its number and spot: they name one fault
pub mod Refusals
