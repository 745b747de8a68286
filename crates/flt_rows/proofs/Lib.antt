pub mod DivideLemmas
pub mod NarrowLemmas
pub mod RowLemmas
pub mod WeightLemmas
