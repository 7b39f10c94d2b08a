pub mod Additions
pub mod Answers
pub mod Definitions
pub mod Rules
pub mod Site
