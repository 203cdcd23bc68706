-- What the proofs of this crate name of the kit, of the crates below and of its own definitions, each with its home.
pub mod Prelude
-- The laws of this crate that the proofs of its functions name, each with its home.
pub mod Face
-- Counts copied word by word, from the front, as far as there is room
pub mod CopiedCounts
-- The spot of every refusal fits into its code: a short table's length, a place in the bytes that decide, a rule or a unit
pub mod ExportedSpots
-- What the codes tell a host, from what the functions below promise
pub mod HostCodes
-- Two words handed back as far as there is room
pub mod PairedWords
-- Readings for hosts: what is asked by a number, and that no answer is taken for a refusal
pub mod ReadingCodes
-- What code and words tell a host of a question to a plan
pub mod HostReplies
-- What code and word tell a host that goes from one position to the next, from what `next_position` promises
pub mod NextCodes
-- The code of what `relay_rows` answers
pub mod RowCodes
-- What the number tells a host of a sheet, from what `judge_sheet` promises
pub mod SheetCodes
-- What code and word tell a host of the constraints that empty a plan, from what `blame_plan` promises
pub mod BlameCodes
-- What code, count and words tell a host that asks for several positions, from what `next_positions` promises
pub mod BatchCodes
-- What code and word tell a host of what a sheet lacks, from what `first_missing` promises; and with S-12 that its positions are just the answer sets
pub mod AuditCodes
