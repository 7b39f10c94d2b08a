pub mod Applicable
pub mod Bound
pub mod SoundDatabase
pub mod Columns
