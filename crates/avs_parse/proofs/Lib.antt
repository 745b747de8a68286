pub mod OpenLemmas
pub mod TurnLemmas
pub mod NumberLemmas
pub mod PlaceLemmas
pub mod TokenLemmas
pub mod LoadLemmas
