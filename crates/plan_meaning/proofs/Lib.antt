-- What the proofs of this crate name of the kit, of the crates below and of its own definitions, each with its home.
pub mod Prelude
-- The computed answer of a contact table is what its words say
pub mod TruthTables
-- The record of a plan's lists means what the lists say
pub mod RecordMeans
-- The answer sets of what was read are those of the lists
pub mod AnswerSetsMean
-- Questions to a plan: refused, or answered of what was read
pub mod AskedPlans
