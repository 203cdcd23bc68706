pub mod Parity
pub mod ParityRows
pub mod Told
