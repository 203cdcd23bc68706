-- What the proofs of this crate name of the kit, of the crates below and of its own definitions, each with its home.
pub mod Prelude
-- The laws of this crate that the proofs of its functions name, each with its home.
pub mod Face
-- The loop that is left with the constraints: one rule of it
pub mod ConstraintSifting
-- The pass over the constraints, as it is computed
pub mod Passes
-- Programs with some of a plan's constraints
pub mod Programs
-- What few_constraints promises is the word of the pass, and it is blamed in document 02's words
pub mod Blames
-- What is blamed, of the plan's lists
pub mod BlameMeaning
-- The results for the bytes of a plan
pub mod Results
-- The pass, computed from a plan's bytes
pub mod Examples
