pub mod Keys
pub mod Held
pub mod Kept
pub mod RowSets
pub mod Rows
pub mod Table
