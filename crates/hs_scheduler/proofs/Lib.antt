pub mod Tried
pub mod Beside
pub mod Finding
pub mod Weighing
pub mod Onward
pub mod Items
pub mod Ended
pub mod Taken_out
