pub mod Index
pub mod Names
pub mod Outputs
pub mod Scopes
pub mod Sought
