pub mod AllNames
pub mod Giving
pub mod Least
pub mod Parents
