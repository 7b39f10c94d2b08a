pub mod Drafted
pub mod Parents
pub mod Steps
