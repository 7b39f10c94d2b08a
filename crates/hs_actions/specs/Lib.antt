pub mod Acting
pub mod Referencing
pub mod Work
