pub mod RowLemmas
pub mod PartLemmas
pub mod SeenLemmas
pub mod SecondLemmas
