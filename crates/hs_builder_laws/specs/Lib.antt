pub mod LawfulParts
