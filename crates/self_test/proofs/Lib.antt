mod Walks
mod SampleLemmas
