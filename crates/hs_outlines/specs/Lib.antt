pub mod Columns
pub mod Counters
pub mod Elements
pub mod ForeignKeys
pub mod Given
pub mod Limits
pub mod Named
pub mod Outline
