pub mod Gaps
pub mod Faults
pub mod EndLine
pub mod Newlines
pub mod Case
