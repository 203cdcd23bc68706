-- What the proofs of this crate name of the kit, of the crates below and of its own definitions, each with its home.
pub mod Prelude
-- The laws of this crate that the proofs of its functions name, each with its home.
pub mod Face
-- The places of a table's inputs: they rise from input to input, and each number up to the last place is one
pub mod Places
-- The bits of a row, and that what a table says depends on its inputs alone
pub mod RowBits
-- The six constant words: bit j of the k-th is bit k of j
pub mod Columns
-- The inputs of a table gone through from the lowest on, at most as many as a row has bits
pub mod InputWalks
-- The rows that completions have: input by input, those that say of it what is known
pub mod RowSifting
-- What rows tell of the inputs of a table: input by input, those that each of the rows has up and those that none has
pub mod ToldInputs
