pub mod Known
pub mod FeedLemmas
pub mod NamedLemmas
