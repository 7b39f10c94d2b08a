pub mod Grows
pub mod Unrolled
pub mod Ahead
pub mod Texts
pub mod Onward
pub mod Attempted
pub mod Steps
pub mod Whole
