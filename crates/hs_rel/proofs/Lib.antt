pub mod Among
pub mod Ends
pub mod FirstOfEach
pub mod Gathered
pub mod Joining
pub mod Runs
pub mod Selecting
pub mod Shown
