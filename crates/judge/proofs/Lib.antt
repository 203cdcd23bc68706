-- What the proofs of this crate name of the kit, of the crates below and of its own definitions, each with its home.
pub mod Prelude
-- The laws of this crate that the proofs of its functions name, each with its home.
pub mod Face
-- Demand 2's first half
pub mod Settled
-- The spot of a reading fault lies within the plan's bytes
pub mod Spots
-- Answers as numbers: a code has the fault's number and its spot, for plans of any length, since the first bytes decide
pub mod Codes
-- A sheet judged
pub mod JudgedSheets
