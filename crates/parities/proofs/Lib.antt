-- What the proofs of this crate name of the kit, of the crates below and of its own definitions, each with its home.
pub mod Prelude
-- The laws of this crate that the proofs of its functions name, each with its home.
pub mod Face
-- Counts of words: of words apart, of an atom, of a word's atoms below a bound
pub mod CountedWords
-- Parities: of the atoms that are in one of two words
pub mod Parities
-- Contact tables that are parities: what such a table says, what that makes of its inputs and its pilot, and which tables are such
pub mod ParityTables
-- Rows of parities: what is put where, what is added to what, and what a row says of a state
pub mod SummedRows
-- A constraint whose words hold says that its one use fails; of a parity table that is a row. And which rules are constraints with one such use
pub mod ToldRows
