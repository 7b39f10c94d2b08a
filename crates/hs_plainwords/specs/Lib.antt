pub mod Answers
pub mod Dialects
pub mod Plain
