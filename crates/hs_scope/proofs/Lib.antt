pub mod Mapped
pub mod Seeking
pub mod Singled
