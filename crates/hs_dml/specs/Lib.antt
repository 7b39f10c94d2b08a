pub mod Candidates
pub mod Rows
pub mod Told
