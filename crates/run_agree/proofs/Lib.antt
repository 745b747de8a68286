pub mod FinishLemmas
pub mod PlaceLemmas
pub mod LawfulLemmas
pub mod CrewLemmas
