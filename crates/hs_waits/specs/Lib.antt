pub mod Meeting
pub mod Waits
