pub mod Head
pub mod Planes
pub mod Line
pub mod Laws
pub mod Stream
pub mod ReadAhead
pub mod Frames
