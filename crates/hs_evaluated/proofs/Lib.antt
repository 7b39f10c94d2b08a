pub mod Attempted
pub mod Finished
