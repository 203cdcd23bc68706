pub mod ContactTable
pub mod TableRows
