pub mod Changing
pub mod Contents
pub mod Files
pub mod Passing
pub mod Torn
pub mod Used
