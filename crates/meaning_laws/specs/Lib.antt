pub mod Files
pub mod Means
