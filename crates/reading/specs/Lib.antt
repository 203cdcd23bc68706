pub mod Words
pub mod Kinds
pub mod Commands
pub mod Reading
pub mod Progress
pub mod Layout
pub mod Refusals
