pub mod Arithmetic
pub mod Sign
pub mod Text
