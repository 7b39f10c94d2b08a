pub mod Copies
pub mod Looks
pub mod Numbers
