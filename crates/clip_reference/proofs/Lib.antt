pub mod StackLemmas
pub mod WeightLemmas
pub mod ReadyLemmas
pub mod RowLemmas
pub mod RangeLemmas
pub mod AskedLemmas
pub mod InfoLemmas
pub mod TermLemmas
pub mod SizeLemmas
mod ChoiceLemmas
