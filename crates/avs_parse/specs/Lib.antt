pub mod Place
pub mod Turns
pub mod VerdictView
pub mod Load
pub mod Loads
pub mod Laws
