pub mod Alone
pub mod Damaged
pub mod Openings
pub mod Replayed
pub mod Replaying
pub mod Safe
pub mod Stops
pub mod Worked
