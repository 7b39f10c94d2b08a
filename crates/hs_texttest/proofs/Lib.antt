pub mod Deciding
pub mod Columns
pub mod Definitions
pub mod Lines
pub mod Rows
pub mod Commits
