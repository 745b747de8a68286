pub mod Alone
pub mod Made
pub mod Windows
