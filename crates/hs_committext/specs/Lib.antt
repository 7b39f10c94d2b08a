pub mod Lines
pub mod Commits
pub mod Reading
pub mod Definitions
pub mod Changes
pub mod DefinitionReading
