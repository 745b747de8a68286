pub mod BlockLemmas
pub mod PartLemmas
pub mod TurnLemmas
