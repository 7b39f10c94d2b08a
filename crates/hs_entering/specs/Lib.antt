pub mod Taken
pub mod Defaults
