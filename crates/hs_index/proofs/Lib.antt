pub mod Gaps
pub mod Indexed
pub mod Keys
pub mod RowSets
pub mod Stored
