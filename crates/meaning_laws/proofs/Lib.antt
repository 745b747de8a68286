pub mod FileLemmas
pub mod MeansLemmas
