pub mod State
pub mod Narrowing
