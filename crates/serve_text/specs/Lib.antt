pub mod InfoText
pub mod StopKinds
pub mod Lines
pub mod Report
