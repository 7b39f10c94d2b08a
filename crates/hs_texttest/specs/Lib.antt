pub mod Columns
pub mod Definitions
pub mod Commits
pub mod Told
