-- What the proofs of this crate name of the kit, of the crates below and of its own definitions, each with its home.
pub mod Prelude
-- The laws of this crate that the proofs of its functions name, each with its home.
pub mod Face
-- Narrowing passes: they compose, and what keeps every position of interest
pub mod Narrows
-- The undecided atoms of a half-decided position
pub mod HalfDecided
-- States within others, and what completes them
pub mod Within
-- A word of which one atom has to go one way: none left, one, or several
pub mod OneAtom
-- One more atom decided: the two branches of a state, and how many atoms are left undecided
pub mod Branches
