pub mod Conditions
pub mod Tested
pub mod Sql
pub mod Meets
pub mod Standing
pub mod Lawful
pub mod Store
pub mod Runs
