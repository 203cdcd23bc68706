pub mod Word
pub mod Bounded
pub mod Collected
pub mod Rising
pub mod Lists
pub mod Cuts
pub mod Tally
pub mod Each
