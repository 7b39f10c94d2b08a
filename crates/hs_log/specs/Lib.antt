pub mod CommitText
pub mod Faults
pub mod Log
pub mod LogReading
