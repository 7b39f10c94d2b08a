pub mod Earliest
pub mod Held
pub mod Lists
pub mod Numbers
pub mod Queue
pub mod Whole
