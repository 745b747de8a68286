pub mod Spelling
pub mod Piece
pub mod NestedComment
pub mod BeginsNothing
pub mod Tokens
pub mod Cursor
pub mod Laws
pub mod Written
