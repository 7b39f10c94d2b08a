pub mod Made
pub mod Naming
pub mod PlainLemmas
pub mod IndexLemmas
