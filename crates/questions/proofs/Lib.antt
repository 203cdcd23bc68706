-- What the proofs of this crate name of the kit, of the crates below and of its own definitions, each with its home.
pub mod Prelude
-- The laws of this crate that the proofs of its functions name, each with its home.
pub mod Face
-- The laws of counts: what the test says, and how a count grows along the list
pub mod QuestionCounts
-- Counts kept while the list is gone through: one position held against question after question, and position after position
pub mod Held
-- The atoms up in all positions and in some, position after position
pub mod CommonAtoms
-- The laws of questions: counts filled in one by one, words taken out one by one, and the answer put together
pub mod Questions
-- The laws of questions as words: what stands where, a count written, and the whole put together again
pub mod QuestionWords
