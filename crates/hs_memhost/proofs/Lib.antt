pub mod Overwritten
pub mod Replayed
