-- What the proofs of this crate name of the kit, of the crates below and of its own definitions, each with its home.
pub mod Prelude
-- The laws of this crate that the proofs of its functions name, each with its home.
pub mod Face
-- Rows for columns over any number of rows and columns
pub mod Turning
-- An area that is filled word by word, from its first word on
pub mod Filling
-- Words that stand apart, written one by one
pub mod Scattering
-- A column of bits is a word of the sheet by relay or of the list, and a block that is read and turned has columns for words
pub mod SheetWords
-- Half blocks exchanged: one law for every size, and what all six rounds come to
pub mod Exchanging
-- The two ways at 64 atoms and 256 positions: what is written has the bits that document 02, S-9 says, and the way there and back
pub mod Rearranging
