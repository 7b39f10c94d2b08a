pub mod Sets
pub mod Touching
pub mod Undoing
pub mod Violating
