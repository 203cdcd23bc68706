-- What the proofs of this crate name of the kit, of the crates below and of its own definitions, each with its home.
pub mod Prelude
-- The laws of this crate that the proofs of its functions name, each with its home.
pub mod Face
-- Insertion: the code's loop follows `insert_into`, which keeps a rising list rising and adds one member
pub mod ListInsertion
-- What an insertion adds to a rising list, and how the answers of two searches go together
pub mod Gathered
-- Cuts of wanted positions, and members that were met
pub mod Witnesses
-- One position: whether it belongs to the list, and what it adds there if it is offered
pub mod SearchSteps
-- The theorem of the search: what was met is what is wanted, as far as it shows
pub mod Calculus
-- Nodes: what they hand back
pub mod Nodes
-- The cases of the calculus with all that is said of a node
pub mod ExploredNodes
-- Spare atoms: bodies and answer sets do not look at them
pub mod SpareAtoms
-- A unit with pilots: what is wanted of it, apart from its pilots, is what is wanted of the unit
pub mod PilotedUnits
-- Pilots that were tested: spare atoms, each of one table
pub mod TestedPilots
-- Searches with pilots: the cuts of what is wired are those of what belongs to the list
pub mod PilotedSearches
-- What is wired: what belongs to the list, where the pilots follow their tables
pub mod WiredPositions
-- The job of the subset test: who is wired there is who satisfies the rules
pub mod Models
