pub mod RateLemmas
pub mod SummaryLemmas
pub mod StackLemmas
pub mod TermLemmas
pub mod LawfulLemmas
