pub mod Tables
pub mod Meaning
pub mod AnswerSets
pub mod Settled
pub mod Read
pub mod Asked
