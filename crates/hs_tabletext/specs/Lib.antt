pub mod Tables
pub mod Columns
pub mod Constraints
pub mod Conditions
pub mod Rules
