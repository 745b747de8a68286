pub mod Changes
pub mod Lending
pub mod Lent
pub mod Places
