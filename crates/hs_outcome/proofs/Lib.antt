pub mod Alike
pub mod Ascending
pub mod OwnRows
pub mod Finishing
pub mod Keyed
pub mod LawfulRows
