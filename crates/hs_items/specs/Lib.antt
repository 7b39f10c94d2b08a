pub mod Items
pub mod Recogniser
