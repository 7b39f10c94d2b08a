pub mod Faults
pub mod Literals
pub mod Comparing
pub mod Rules
