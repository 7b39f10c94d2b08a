pub mod Before
pub mod Executed
pub mod Needed
