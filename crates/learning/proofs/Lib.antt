-- What the proofs of this crate name of the kit, of the crates below and of its own definitions, each with its home.
pub mod Prelude
-- The laws of this crate that the proofs of its functions name, each with its home.
pub mod Face
-- Nogoods: what lies within what, what a pair that is avoided says of a state, and resolution
pub mod Nogoods
-- The store: what it is at first, and what a write changes
pub mod Stores
-- Reasons: a goal told by a step, a pair with the reason in the goal's place, and a nogood lifted over a trail
pub mod Reasons
-- Steps run again: what belongs to the list and completes no learnt pair survives each of them
pub mod HeededSteps
-- The trail and the scores: a step that is noted, and a tally that is a part of the memory
pub mod Trails
