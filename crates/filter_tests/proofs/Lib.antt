pub mod BuiltLemmas
pub mod FrameLemmas
