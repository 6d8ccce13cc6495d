pub mod NumberLemmas
pub mod ReadingLemmas
pub mod WritingLemmas
pub mod LaidLemmas
pub mod SpellingLemmas
pub mod WordLemmas
