pub mod Job
pub mod Agenda
pub mod Desk
pub mod Step
pub mod Context
