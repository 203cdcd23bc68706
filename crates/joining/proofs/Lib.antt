-- What the proofs of this crate name of the kit, of the crates below and of its own definitions, each with its home.
pub mod Prelude
-- The laws of this crate that the proofs of its functions name, each with its home.
pub mod Face
-- The lists of direct predecessors: to join all is to join each
pub mod JoinedLists
-- The filter
pub mod Filters
-- Units whose head atoms cover a word, looked for one after the other
pub mod CoveredUnits
