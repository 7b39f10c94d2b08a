pub mod Bound
pub mod Statements
