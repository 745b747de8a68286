-- Places, what stands at them, and the place that a worker means by a node.
use Rattle.std.specs.Prelude.{◌≡◌, ℕ, ◌==◌, Bool, true, false, not, ◌&&◌, if◌then◌else◌, List, Option, Some, None, is_some}
use Rattle.std.specs.Bool.{beq}
use Rattle.std.specs.List.{AllPass, IsDistinct}
use Rattle.std.specs.Map.{lookup, set_value, keys_of}
use Rattle.inst_table.specs.declared.place.Place.{Place}
use Rattle.inst_table.specs.declared.place.Slot.{Slot}
use Rattle.inst_table.specs.declared.place.Slot.TheVariants.{Free, Leased}

abbrev pub place_at : ℕ → ℕ → Bool → Place
place_at node instance shared = record { node = node; instance = instance; shared = shared }

abbrev pub shared_place : ℕ → Place
shared_place node = place_at node 0 true

abbrev pub own_place : ℕ → ℕ → Place
own_place worker node = place_at node worker false

abbrev pub same_place : Place → Place → Bool
same_place a b = a.node == b.node && (a.instance == b.instance && beq a.shared b.shared)

module _ {I : Type 0} where
  -- what stands at a place
  abbrev pub slot_at : Place → List (Place × Slot I) → Option (Slot I)
  slot_at place places = lookup (same_place place) places

  abbrev pub has_place : Place → List (Place × Slot I) → Bool
  has_place place places = is_some (slot_at place places)

  -- no place is there twice
  abbrev pub PlacesDiffer : List (Place × Slot I) → Type 0
  PlacesDiffer places = IsDistinct same_place (keys_of places)

  -- something else stands at a place that is there
  abbrev pub with_slot : Place → Slot I → List (Place × Slot I) → List (Place × Slot I)
  with_slot place slot places = set_value (same_place place) places slot

  -- the node has no instance of this number
  abbrev pub IsNewPair : ℕ → ℕ → List (Place × Slot I) → Type 0
  IsNewPair node instance places = (shared : Bool) → slot_at (place_at node instance shared) places ≡ None

  -- the shared instance of the node, if it has one, else the worker's own
  abbrev pub place_meant : ℕ → ℕ → List (Place × Slot I) → Place
  place_meant worker node places =
      if has_place (shared_place node) places then shared_place node else own_place worker node

  abbrev pub is_free : Slot I → Bool
  is_free (Free x) = true
  is_free (Leased worker) = false

  abbrev pub is_lent : Option (Slot I) → Bool
  is_lent None = false
  is_lent (Some slot) = not (is_free slot)

  -- the place is there, and its instance is lent
  abbrev pub is_out : Place → List (Place × Slot I) → Bool
  is_out place places = is_lent (slot_at place places)

  abbrev pub is_free_entry : Option (Place × Slot I) → Bool
  is_free_entry None = false
  is_free_entry (Some e) = is_free e.1

  -- no instance is in the table
  abbrev pub AllLent : List (Place × Slot I) → Type 0
  AllLent places = AllPass (λ e. not (is_free e.1)) places
