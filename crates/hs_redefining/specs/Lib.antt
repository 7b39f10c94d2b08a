pub mod Dropped
pub mod Effects
pub mod Judged
pub mod Longer
pub mod Tables
pub mod Told
