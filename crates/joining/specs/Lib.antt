pub mod Joins
pub mod Filter
pub mod Nearest
