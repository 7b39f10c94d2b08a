pub mod Answering
pub mod Held
