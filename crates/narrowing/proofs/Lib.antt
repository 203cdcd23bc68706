-- What the proofs of this crate name of the kit, of the crates below and of its own definitions, each with its home.
pub mod Prelude
-- The laws of this crate that the proofs of its functions name, each with its home.
pub mod Face
-- Support: each atom of an answer set that is no fact has a rule that supports it
pub mod Supports
-- Tables of words to which numbers are added: one after the other, by a loop over the numbers of a word, and one word at a place
pub mod MarkedTables
-- The table of the rules that may back an atom: one rule more is noted at each turn
pub mod BackedAtoms
-- The support step: which rules may support an atom, and what follows where none or one is left
pub mod SupportSteps
-- Unfounded atoms: by what a rule can do without them, and that an answer set has none
pub mod UnfoundedAtoms
-- The steps by number: what each promises holds of every answer set that has its inputs as facts
pub mod NumberedSteps
-- Rules at a stop (document 02, S-7): what that means, where a rule stands, and that no answer set completes the state there
pub mod StoppedRules
-- Rules with a wide head: a rule of which the test said no has none
pub mod WideRules
-- Atoms that hold each other up: what one rule adds, what all rules add, and the largest such set
pub mod LoopedAtoms
-- The steps that a rule has woken: the four parts of the table
pub mod WokenSteps
-- Whether an atom of its own makes a rule's body fail
pub mod UnfailedRules
