pub mod Acknowledged
pub mod Lines
pub mod Machine
pub mod Replies
pub mod Values
