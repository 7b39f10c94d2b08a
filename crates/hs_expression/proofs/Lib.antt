pub mod OfNull
pub mod Wholes
pub mod Years
