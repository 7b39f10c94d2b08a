pub mod Checkpoint
