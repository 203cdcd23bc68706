-- Circuits 2 to 11 of document 01 and plan P, from their bytes
pub mod Circuits
