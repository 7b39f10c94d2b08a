pub mod PlaceLemmas
pub mod ActionLemmas
pub mod KeyLemmas
pub mod Printed
