mod CompileLemmas
mod FoundLemmas
