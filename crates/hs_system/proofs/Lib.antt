pub mod Ahead
pub mod Attempts
pub mod Grounded
pub mod Kept
pub mod Lawful
pub mod Opened
pub mod Remade
pub mod Runs
