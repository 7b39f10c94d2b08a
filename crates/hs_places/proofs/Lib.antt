pub mod Answered
pub mod AtPlaces
pub mod BehindKeys
pub mod Keeping
pub mod Lists
