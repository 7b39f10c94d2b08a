pub mod Inside
pub mod Meeting
