pub mod CallerLemmas
mod LruLemmas
