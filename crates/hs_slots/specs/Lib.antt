pub mod Anew
pub mod Points
pub mod Served
