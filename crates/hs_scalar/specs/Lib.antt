pub mod Attempt
pub mod Letters
pub mod Like
pub mod Positions
pub mod Trimming
