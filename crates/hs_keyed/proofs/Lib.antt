pub mod Halves
pub mod Indexed
pub mod Ordered
pub mod Stored
