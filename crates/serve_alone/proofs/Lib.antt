pub mod KeyLemmas
pub mod Going
pub mod Producing
pub mod Serving
