pub mod Entries
pub mod Lanes
pub mod Earliest
pub mod Queues
