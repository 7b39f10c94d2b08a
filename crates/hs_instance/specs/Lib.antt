pub mod Instance
pub mod Lawful
pub mod Staying
