pub mod RowLemmas
pub mod StackLemmas
pub mod JoinLemmas
pub mod LaneLemmas
pub mod CallerLemmas
