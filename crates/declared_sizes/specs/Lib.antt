pub mod Lost
pub mod Uncounted
