pub mod Asked
pub mod Equal
pub mod Layers
pub mod Needed
pub mod NoFault
pub mod Selecting
