pub mod Listing
pub mod Witness
pub mod Outlook
pub mod Calculus
pub mod Models
pub mod Node
pub mod Entered
pub mod Spare
