pub mod Behind
pub mod Indexes
pub mod Keeping
pub mod RowsSet
pub mod Tested
pub mod Differing
