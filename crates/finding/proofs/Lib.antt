-- What the proofs of this crate name of the kit, of the crates below and of its own definitions, each with its home.
pub mod Prelude
-- The laws of this crate that the proofs of its functions name, each with its home.
pub mod Face
-- A whole program as one unit: what belongs to it are its answer sets
pub mod Wholes
-- Fewer constraints have no fewer answer sets, and so the greedy pass is right
pub mod Constraints
-- The least with a property: there is one answer, and the lowest number below a bound that passes a test is it
pub mod Leasts
-- A walk from the start to the end: the rising list of all is one, and each has all and nothing else
pub mod Walks
-- Words added rising behind a count: none, one, as many as there is room for, and the higher ones behind the lower ones
pub mod AddedWords
-- The tree over undecided atoms: what is known at a node, its two branches, and that all below the dropped one are below all below the other
pub mod Trees
-- Positions that are like the place from an atom on: they are the ones behind it up to the last of them, and all others come later
pub mod NearPlaces
