pub mod RowLemmas
pub mod OpenLemmas
pub mod LevelLemmas
