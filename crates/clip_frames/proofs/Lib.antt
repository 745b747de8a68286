pub mod CallerLemmas
pub mod NodeLemmas
pub mod InputLemmas
