pub mod Rows
pub mod Squares
