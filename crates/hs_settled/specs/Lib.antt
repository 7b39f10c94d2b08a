pub mod Columns
pub mod Giving
pub mod Joins
pub mod Parts
pub mod Spots
