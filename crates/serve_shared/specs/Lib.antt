pub mod Seats
pub mod Shares
pub mod Steps
pub mod Turns
