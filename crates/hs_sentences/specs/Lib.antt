pub mod Asking
pub mod Sentences
pub mod Violations
