pub mod Counted
pub mod Listed
pub mod Looking
pub mod Made
pub mod Seating
pub mod SetBack
