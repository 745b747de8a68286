pub mod InputLemmas
pub mod HoldLemmas
pub mod WaitLemmas
pub mod NextLemmas
pub mod MoveLemmas
pub mod BoundLemmas
pub mod PrefixLemmas
