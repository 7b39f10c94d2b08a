pub mod Synced
pub mod Turns
