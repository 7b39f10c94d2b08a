pub mod Grammar
pub mod Check
pub mod Answer
pub mod Stands
pub mod Machine
pub mod Leftmost
