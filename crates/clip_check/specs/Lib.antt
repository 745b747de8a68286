pub mod Numbers
pub mod Summaries
