mod BufferLemmas
pub mod CallerLemmas
mod FilesStateLemmas
mod SourceStateLemmas
mod TripLemmas
mod WaitingLemmas
