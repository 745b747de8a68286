mod BindingLemmas
mod NumberLemmas
mod CharacterLemmas
mod PositionLemmas
mod KindLemmas
