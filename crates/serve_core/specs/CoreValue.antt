-- What contracts see of a core.
use Rattle.std.specs.Prelude.{ℕ, Bool, List, Option}
use Rattle.fv_plane.specs.Picture.{Picture}
use Rattle.fv_plane.specs.declared.key.Key.{Key}
use Rattle.inst_table.specs.declared.place.Place.{Place}
use Rattle.inst_table.specs.declared.place.Slot.{Slot}
use Rattle.serve_machine.specs.declared.event.Event.{Event}
use Rattle.serve_machine.specs.declared.event.WindowStop.{WindowStop}
pub use Rattle.serve_machine.specs.Machine.{Fixed}

-- who took the outputs so far, in their order, and what was delivered at each place of the window
pub record Outputs : Type 0 where
  pub taken : List ℕ
  pub frames : List (Option Picture)

-- the cache with the most recently used first, each claim with its worker and the newest last, each place with its
-- instance or the worker that has it, and for each worker whether it failed
pub record CoreValue (I : Type 0) : Type 0 where
  pub fixed : Fixed
  pub cache : List (Key × Picture)
  pub claims : List (Key × ℕ)
  pub table : List (Place × Slot I)
  pub outputs : Outputs
  pub failed : List Bool
  pub stop : Option WindowStop
  pub journal : List Event
