pub mod Naming
pub mod Readings
