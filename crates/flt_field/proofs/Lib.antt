pub mod RowLemmas
pub mod ShareLemmas
pub mod CallerLemmas
