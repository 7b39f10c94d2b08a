pub mod Answered
pub mod Behind
pub mod Concluded
pub mod Layers
pub mod Noting
pub mod Selecting
pub mod Uneven
