pub mod Applied
pub mod Set
