pub mod Conditions
pub mod Operators
