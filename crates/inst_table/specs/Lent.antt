-- What contracts see of a lease.
use Rattle.inst_table.specs.declared.place.Place.{Place}

-- the place that the instance belongs to, and the instance
pub record Lent (I : Type 0) : Type 0 where
  pub place : Place
  pub value : I
