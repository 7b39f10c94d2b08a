pub mod Settled
pub mod Putting
pub mod Unborn
pub mod Born
