pub mod Actions
pub mod Edited
pub mod Links
pub mod Names
pub mod Statements
pub mod Violations
