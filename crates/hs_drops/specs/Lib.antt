pub mod Answers
pub mod Definitions
