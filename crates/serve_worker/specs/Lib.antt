pub mod Sources
pub mod Instances
pub mod Furnishing
