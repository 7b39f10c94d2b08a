pub mod Drafted
pub mod Whole
