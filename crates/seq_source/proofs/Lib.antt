pub mod CallerLemmas
pub mod FrameLemmas
pub mod KeepingLemmas
pub mod PlaceLemmas
pub mod RangeLemmas
