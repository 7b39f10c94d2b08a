pub mod Choosing
pub mod Edits
pub mod Inserts
pub mod Standing
