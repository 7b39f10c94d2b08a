pub mod Entries
pub mod AtOnce
