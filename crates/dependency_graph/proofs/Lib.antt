-- What the proofs of this crate name of the kit, of the crates below and of its own definitions, each with its home.
pub mod Prelude
-- The laws of this crate that the proofs of its functions name, each with its home.
pub mod Face
-- The laws of reach and of head atoms
pub mod Heads
-- Induction along the edges of an acyclic graph
pub mod Along
-- The head atoms of a unit by the units under it
pub mod Under
-- What a unit sees of the rules that it holds, if the graph passes
pub mod Seen
-- The working order
pub mod Order
-- The word of a row collects the rules or units that break its condition, so the condition holds exactly if the word is empty
pub mod Offenders
-- One row of the verdict: it fits where its word has a number, and otherwise the rows below are asked
pub mod ConditionRows
-- The verdict passes exactly the graphs that pass, and a refusal names the first row that fits and its lowest rule or unit
pub mod Verdicts
-- Tables filled word by word, from the front
pub mod Filled
-- Words that a loop builds number by number, up to a bound
pub mod Built
-- The units of a plan: the rest of a body depends on what it looks at alone; and the tables of head atoms
pub mod PlanUnits
-- Small circuits of document 01 at the graph place: the definitions give the verdicts that the paper has
pub mod GraphCircuits
-- What a loop gathers over the numbers of a word, by what a function answers of each
pub mod GatheredNumbers
