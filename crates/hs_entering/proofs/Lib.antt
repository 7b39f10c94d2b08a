pub mod Constraints
pub mod Taking
