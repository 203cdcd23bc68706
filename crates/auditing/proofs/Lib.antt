-- What the proofs of this crate name of the kit, of the crates below and of its own definitions, each with its home.
pub mod Prelude
-- The laws of this crate that the proofs of its functions name, each with its home.
pub mod Face
-- What a sheet lacks, from its words; and with S-12 whether its positions are just the answer sets
pub mod Audits
