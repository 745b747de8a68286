pub mod Opened
pub mod Answers
pub mod Worlds
pub mod Closed
