pub mod Tallies
pub mod Claims
pub mod Mirrors
pub mod Leases
pub mod Stages
pub mod Steps
pub use Rattle.run_text.specs.Lines
pub use Rattle.run_text.specs.Journal
