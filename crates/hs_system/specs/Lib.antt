pub mod Answers
pub mod Governed
pub mod Meaning
pub mod Openings
pub mod Room
pub mod System
