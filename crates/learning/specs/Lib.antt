pub mod Nogood
pub mod Store
pub mod Reason
pub mod Trail
