mod ReadLemmas
pub mod VerdictLemmas
