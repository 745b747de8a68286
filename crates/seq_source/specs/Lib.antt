pub mod FrameSource
pub mod Faults
