pub mod Program
pub mod AnswerSet
pub mod Test
pub mod Lent
pub mod Known
pub mod RulePass
pub mod SubsetTest
pub mod Memo
