pub mod Moves
pub mod Waiting
pub mod Moving
pub mod Bounds
pub mod Along
