-- What a worker holds.
use Rattle.std.specs.Prelude.{◌≡◌, ℕ, ◌==◌, Bool, true, false, not, ◌&&◌, List, [], ◌∷◌, Option, Some, None}
use Rattle.fv_plane.specs.declared.key.Key.{Key}
use Rattle.inst_table.specs.declared.place.Place.{Place}
use Rattle.inst_table.specs.declared.place.Slot.{Slot}
use Rattle.inst_table.specs.declared.place.Slot.TheVariants.{Free, Leased}
use Rattle.inst_table.specs.Places.{slot_at, shared_place}
use Rattle.serve_machine.specs.declared.event.WindowStop.{WindowStop}
use Rattle.serve_machine.specs.declared.event.WindowStop.TheVariants.{Read, Changed, Memory}
pub use Rattle.serve_machine.specs.Machine.{claims_at}

-- no lease
abbrev pub holds_none : {I : Type 0} → ℕ → List (Place × Slot I) → Bool
holds_none w [] = true
holds_none w ((p, Free x) ∷ es) = holds_none w es
holds_none w ((p, Leased v) ∷ es) = not (v == w) && holds_none w es

abbrev pub is_free_at : {I : Type 0} → Option (Slot I) → Bool
is_free_at None = false
is_free_at (Some (Free x)) = true
is_free_at (Some (Leased w)) = false

-- the source whose read failed is in the table
abbrev pub IsThere : {I : Type 0} → List (Place × Slot I) → WindowStop → Type 0
IsThere table (Read i) = is_free_at (slot_at (shared_place i) table) ≡ true
IsThere table (Changed i n want got) = Unit {0}
IsThere table Memory = Unit {0}

-- the last of these keys, or the one before them
abbrev pub last_after : Option Key → List Key → Option Key
last_after before [] = before
last_after before (k ∷ ks) = last_after (Some k) ks

abbrev pub newest : List Key → Option Key
newest keys = last_after None keys
