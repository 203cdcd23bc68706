pub mod Pilots
pub mod Linked
