pub mod Kept
pub mod Holds
pub mod Waiting
pub mod Starts
