pub mod Behind
pub mod Held
pub mod Inserts
pub mod Numbered
pub mod Ongoing
pub mod Valid
