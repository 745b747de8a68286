pub mod OutsideBy
pub mod Ranges
pub mod Bodies
pub mod Deeper
pub mod Evaluates
