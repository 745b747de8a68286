pub mod Ready
pub mod Sources
