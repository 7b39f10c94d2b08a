pub mod Columns
pub mod Defaults
pub mod Faults
pub mod Names
