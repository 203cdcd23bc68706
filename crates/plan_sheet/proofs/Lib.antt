-- What the proofs of this crate name of the kit, of the crates below and of its own definitions, each with its home.
pub mod Prelude
-- The sheet by the outcome, that an accepted plan came with a long enough table, and the greatest length of a sheet
pub mod PlanSheets
-- What the sheet of an answer says, by demands 1 and 3
pub mod Said
-- `settle` keeps the first 4,096 bytes of its input: the sheet of these is the sheet of all
pub mod SheetPrefix
-- The sheet of a kept part: the buffer has room for every sheet, and what follows the part changes nothing
pub mod Kept
