pub mod Pictures
pub mod Scratch
