pub mod Answered
pub mod Attempts
pub mod Bytes
pub mod Keeps
pub mod Named
pub mod Printed
pub mod Silent
pub mod Turns
