pub mod Applied
pub mod Undone
