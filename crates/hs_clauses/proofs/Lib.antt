pub mod Forms
pub mod Stars
pub mod Steps
