pub mod Limits
pub mod Faults
pub mod Record
