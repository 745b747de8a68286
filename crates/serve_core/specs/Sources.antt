-- What the plan says of the instances in a table.
use Rattle.std.specs.Prelude.{◌≡◌, ℕ, ◌+◌, ◌==◌, ◌<◌, true, if◌then◌else◌, List, [], ◌∷◌, length, map, Option, Some, None}
use Rattle.fv_plane.specs.declared.format.Info.{Info}
use Rattle.fv_plane.specs.declared.format.Shape.{Shape}
use Rattle.fv_plane.specs.Picture.{Picture}
use Rattle.clip_term.specs.Terms.{source_info}
use Rattle.clip_graph.specs.Plan.{Application, application_at, is_source}
use Rattle.inst_table.specs.declared.place.Place.{Place}
use Rattle.inst_table.specs.declared.place.Slot.{Slot}
use Rattle.inst_table.specs.declared.place.Slot.TheVariants.{Free, Leased}
use Rattle.inst_table.specs.Places.{slot_at, has_place, shared_place, own_place}
use Rattle.serve_machine.specs.Events.{mode_at, instance_of}
pub use Rattle.serve_machine.specs.Machine.{with_told, all_told}

abbrev pub shape_at : List Application → ℕ → Shape
shape_at plan i = (application_at plan i).info.shape

-- the instance of a node that a worker uses
abbrev pub place_of : List Application → ℕ → ℕ → Place
place_of plan w i = record { node = i; instance = instance_of plan w i; shared = mode_at plan i == 3 }

-- the info of the source that stands there
abbrev pub opened_at : List Application → ℕ → Option Info
opened_at plan i = source_info (application_at plan i).act

-- the nodes that are sources, in their order, where the first node has this number
abbrev pub sources_from : ℕ → List Application → List ℕ
sources_from i [] = []
sources_from i (a ∷ later) = if is_source a.act then i ∷ sources_from (i + 1) later else sources_from (i + 1) later

abbrev pub source_nodes : List Application → List ℕ
source_nodes plan = sources_from 0 plan

module _ {I : Type 0} where
  -- the table has the instances that the modes of the nodes ask for
  pub record IsFurnished (plan : List Application) (workers : ℕ) (table : List (Place × Slot I)) : Type 0 where
    pub shared : (i : ℕ) → i < length plan → has_place (shared_place i) table ≡ (mode_at plan i == 3)
    pub own : (w i : ℕ) → w < workers → i < length plan → mode_at plan i ≡ 2 → has_place (own_place w i) table ≡ true

  -- each instance that is in the table keeps the source of its node, or none
  abbrev pub HoldTheirs : (I → Option Info) → List Application → List (Place × Slot I) → Type 0
  HoldTheirs holds plan table = (p : Place) (x : I) → slot_at p table ≡ Some (Free x) → holds x ≡ opened_at plan p.node

  -- the frames of the sources in the table, where all are told
  abbrev pub feed_at : (I → Option (List Picture)) → Option (Slot I) → Option (List Picture)
  feed_at feed None = None
  feed_at feed (Some (Free x)) = feed x
  feed_at feed (Some (Leased w)) = None

  abbrev pub book_of : (I → Option (List Picture)) → List Application → List (Place × Slot I)
      → Option (List (List Picture))
  book_of feed plan table = all_told (map (λ i. feed_at feed (slot_at (shared_place i) table)) (source_nodes plan))

  -- the counts of faults of the sources in the table
  abbrev pub faults_at : (I → ℕ) → Option (Slot I) → ℕ
  faults_at faults None = 0
  faults_at faults (Some (Free x)) = faults x
  faults_at faults (Some (Leased w)) = 0

  abbrev pub faults_of : (I → ℕ) → List Application → List (Place × Slot I) → List ℕ
  faults_of faults plan table = map (λ i. faults_at faults (slot_at (shared_place i) table)) (source_nodes plan)
