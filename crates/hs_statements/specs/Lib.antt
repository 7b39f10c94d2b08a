pub mod Statements
pub mod Answers
pub mod Bound
pub mod Naming
