pub mod CharLemmas
pub mod LetterLemmas
pub mod LikeLemmas
pub mod LikeLaws
