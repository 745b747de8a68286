pub mod Flows
pub mod Turns
