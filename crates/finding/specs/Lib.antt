pub mod Whole
pub mod Least
pub mod Few
pub mod Walk
pub mod Gather
pub mod Near
