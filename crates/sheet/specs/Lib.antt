pub mod Sheet
pub mod LentSheet
