pub mod Turned
pub mod RelaySheet
pub mod Columns
pub mod Exchange
pub mod RowAnswers
