pub mod CallerLemmas
mod FileLemmas
mod OpenedLemmas
pub mod SourceFiles
mod WorldLemmas
