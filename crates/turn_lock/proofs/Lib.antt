pub mod CallerLemmas
pub mod EntryLemmas
pub mod RuleLemmas
pub mod TurnLemmas
pub mod SeatLemmas
