-- What the proofs of this crate name of the kit, of the crates below and of its own definitions, each with its home.
pub mod Prelude
-- The computing lists are those of `Listed`: along edges, since a unit reaches more than any unit it has an edge to
pub mod Decided
-- Runs of 256 words one behind the other: their length, what stands at an index, and what a store changes
pub mod Runs
-- Lists in the table, each in its 256 words, and their counts: what is read there, what a store changes, and what clearing leaves
pub mod HeldLists
-- The answer place by place: which place refuses, and what unit work says list by list
pub mod Answers
-- A plan that reads names no predecessor that is not there
pub mod CleanPlan
-- The computing lists enumerate document 01's lists, and no other rising list does; so how long a list is can be told from them
pub mod Enumerations
-- The last count is at most 256, whatever the plan and the table
pub mod LastCount
-- Demand 2 on graphs, from the answer that the function hands back: its outcome tells the verdict, and only one verdict is right
pub mod Demand2
-- Demand 3, from the answer that the function hands back and the theorem of the splitting theory
pub mod Demand3
-- "two accepted plans that agree there (same unit numbers, rules and edges) give it the same list"
pub mod ListAgreement
-- Demand 1, from the answer that the function hands back
pub mod Demand1
-- What the atoms that show make of the last list (02, S-11)
pub mod ShownAtoms
-- The units of a plan mean what its lists say
pub mod UnitsMean
-- What is handed back has demands 1 to 3
pub mod Promised
