pub mod Answers
pub mod JudgedSheets
