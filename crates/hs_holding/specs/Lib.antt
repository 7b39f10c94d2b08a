pub mod Seats
pub mod Held
pub mod Starts
