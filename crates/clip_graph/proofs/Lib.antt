pub mod GrowingLemmas
pub mod UnfoldingLemmas
