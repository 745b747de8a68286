pub mod CallerLemmas
mod MapLemmas
