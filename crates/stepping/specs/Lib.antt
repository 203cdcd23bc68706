pub mod Followed
pub mod PlanWalk
pub mod Batch
