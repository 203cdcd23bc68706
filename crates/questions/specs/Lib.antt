pub mod Counts
pub mod Questions
pub mod QuestionWords
pub mod Counting
pub mod Common
