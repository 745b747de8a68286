-- What the calls of a table answer and leave.
use Rattle.std.specs.Prelude.{◌≡◌, ℕ, slice_get, remove, List, Some}
use Rattle.inst_table.specs.declared.place.Place.{Place}
use Rattle.inst_table.specs.declared.place.Slot.{Slot}
use Rattle.inst_table.specs.declared.place.Slot.TheVariants.{Free, Leased}
use Rattle.inst_table.specs.declared.lease.Entered.{Entered}
use Rattle.inst_table.specs.declared.lease.Entered.TheVariants.{Leased as Lends, Busy}
use Rattle.inst_table.specs.Places.{slot_at, with_slot}

module _ {I : Type 0} where
  -- the instance at the place is lent to the worker, or the worker that has it is named
  abbrev pub Enters : List (Place × Slot I) → ℕ → Place → Entered I → List (Place × Slot I) → Type 0
  Enters old worker place (Lends lease) new =
      (lease.place ≡ place) × (slot_at place old ≡ Some (Free lease.value)) × (new ≡ with_slot place (Leased worker) old)
  Enters old worker place (Busy holder) new = (slot_at place old ≡ Some (Leased holder)) × (new ≡ old)

  -- one place is gone, and its instance is this one
  pub record TakesOne (old : List (Place × Slot I)) (value : I) (new : List (Place × Slot I)) : Type 0 where
    pub index : ℕ
    pub place : Place
    pub was : slice_get old index ≡ Some (place, Free value)
    pub rest : new ≡ remove old index
