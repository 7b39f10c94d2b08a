pub mod Lawful
pub mod Tally
