pub mod Answers
pub mod Statements
pub mod Targets
pub mod Values
