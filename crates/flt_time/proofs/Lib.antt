pub mod NumberLemmas
pub mod LengthLemmas
pub mod ShownLemmas
