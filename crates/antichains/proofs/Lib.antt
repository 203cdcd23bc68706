-- What the proofs of this crate name of the kit, of the crates below and of its own definitions, each with its home.
pub mod Prelude
-- How many chains there are
pub mod Counting
-- Chains of sets, the largest first, and how one grows with an atom
pub mod Chains
-- Sperner's theorem
pub mod Sperner
-- No answer set lies within another, nor a member of a list within another of that list (document 02, S-14)
pub mod NoneWithin
-- The word of head atoms has just the atoms that are in some head, and what a list's members have beside them is the given atoms
pub mod HeadAtoms
-- How long lists are
pub mod ListLengths
-- "Ten headed relays always fit" (document 02, S-14)
pub mod TenHeads
-- The head atoms of document 01's circuits 7 and 12, computed from their bytes
pub mod TenHeadCircuits
