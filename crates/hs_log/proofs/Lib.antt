pub mod CommitTexts
pub mod Logs
