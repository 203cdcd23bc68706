-- What the proofs of this crate name of the kit, of the crates below and of its own definitions, each with its home.
pub mod Prelude
-- The laws of this crate that the proofs of its functions name, each with its home.
pub mod Face
-- Writing bytes into a sheet from a place on
pub mod WrittenBytes
-- The kit's digits: `io::decimal` makes `places n` of them, and `io::hex` sixteen
pub mod DecimalDigits
-- A sheet is put together from its pieces, one behind the other, and its length is theirs
pub mod Sheets
-- The sheets that document 01 shows, computed from the definitions
pub mod Examples
