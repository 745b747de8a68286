pub mod Added
pub mod Plan
pub mod Nodes
