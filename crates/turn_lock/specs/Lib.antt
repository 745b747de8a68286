pub mod Entries
pub mod SeatView
pub mod TurnRule
pub mod Steps
pub mod Places
