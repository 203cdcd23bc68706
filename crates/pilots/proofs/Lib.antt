-- What the proofs of this crate name of the kit, of the crates below and of its own definitions, each with its home.
pub mod Prelude
-- The laws of this crate that the proofs of its functions name, each with its home.
pub mod Face
-- Rows of a table that a state leaves, and what they tell of inputs and of the pilot
pub mod PilotRows
-- Linked rules: their bodies where pilots follow their tables, and their answer sets
pub mod LinkedRules
-- How rules are linked one after the other
pub mod Linking
-- Pilots at a full position: one row is left there, and it tells what the table says
pub mod FollowedTables
