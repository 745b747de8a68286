mod NumberLemmas
mod LookLemmas
mod RowLemmas
mod WalkLemmas
mod GivenLemmas
mod CommandLemmas
