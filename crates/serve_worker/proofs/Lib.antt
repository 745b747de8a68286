pub mod SourceLemmas
pub mod MakeLemmas
pub mod Reading
pub mod FurnishingLemmas
pub mod CallerLemmas
