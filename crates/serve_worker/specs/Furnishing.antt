-- The instances that the nodes of a plan need, and the sources that stand among them.
use Rattle.std.specs.Prelude.{◌≡◌, ℕ, zero, suc, ◌+◌, ◌==◌, ◌<◌, if◌then◌else◌, List, [], ◌∷◌, ◌++◌, length, map, slice_get, Option, Some, None, IfSome, MatchOption}
use Rattle.fv_io.specs.declared.source.Source.{Ghosts}
use Rattle.fv_plane.specs.declared.format.Info.{Info}
use Rattle.seq_source.specs.FrameSource.{FrameSource}
use Rattle.clip_term.specs.Terms.{Act, source, soft, SourcePart, source_info, source_part}
use Rattle.clip_graph.specs.Plan.{Application, application_at}
use Rattle.inst_table.specs.declared.place.Place.{Place}
use Rattle.inst_table.specs.declared.place.Slot.{Slot}
use Rattle.inst_table.specs.declared.place.Slot.TheVariants.{Free, Leased}
use Rattle.inst_table.specs.Places.{slot_at, shared_place, own_place, IsNewPair}
use Rattle.serve_core.specs.Sources.{IsFurnished, HoldTheirs}
use Rattle.serve_worker.specs.declared.instance.Instance.{Instance}
use Rattle.serve_worker.specs.declared.instance.Instance.TheVariants.{Plain, Scratch, Source}
use Rattle.serve_worker.specs.Instances.{holds_of}

-- the sources in a table, the newest first
abbrev pub sources_in : {S : Type 0} → List (Place × Slot (Instance S)) → List (FrameSource S)
sources_in [] = []
sources_in ((p, Free Plain) ∷ es) = sources_in es
sources_in ((p, Free (Scratch width)) ∷ es) = sources_in es
sources_in ((p, Free (Source it)) ∷ es) = sources_in es ++ it ∷ []
sources_in ((p, Leased w) ∷ es) = sources_in es

-- how often each of these sources has failed
abbrev pub fault_counts : {S : Type 0} → Ghosts S → List (FrameSource S) → List ℕ
fault_counts of sources = map (λ it. of.faults it.source) sources

-- how many places have an info
abbrev pub some_in : List (Place × Option Info) → ℕ
some_in [] = 0
some_in ((p, None) ∷ infos) = some_in infos
some_in ((p, Some info) ∷ infos) = some_in infos + 1

-- what a node keeps that is no source: a filter of the group Soft a scratch with no row, others nothing
abbrev pub filter_instance : {S : Type 0} → Act → Instance S
filter_instance (soft op) = Scratch 0
filter_instance _ = Plain

-- what a node of this op keeps: a source its frames
abbrev pub IsKindOf : {S : Type 0} → Act → Instance S → Type 0
IsKindOf {S = S} act x =
    MatchOption (source_part act) (x ≡ filter_instance act) (λ (part : SourcePart). (it : FrameSource S) × (x ≡ Source it))

-- the table has what the modes ask for, each instance is what its node keeps, and each source stands at its node
pub record Furnishes {S : Type 0} (plan : List Application) (workers : ℕ) (sources : List (FrameSource S))
    (table : List (Place × Slot (Instance S))) : Type 0 where
  pub furnished : IsFurnished plan workers table
  pub theirs : HoldTheirs holds_of plan table
  pub kinds : (p : Place) (x : Instance S) → slot_at p table ≡ Some (Free x)
      → IsKindOf (application_at plan p.node).act x
  pub at_nodes : (i number : ℕ) (name : List ℕ) (info : Info) (it : FrameSource S)
      → (application_at plan i).act ≡ source name number info → slice_get sources number ≡ Some it
      → slot_at (shared_place i) table ≡ Some (Free (Source it))

-- an instance of a node for each of so many workers
abbrev pub own_entries : {S : Type 0} → ℕ → Instance S → ℕ → List (Place × Slot (Instance S))
own_entries i x zero = []
own_entries i x (suc w) = own_entries i x w ++ (own_place w i, Free x) ∷ []

-- the node has no instance yet
abbrev pub IsNewNode : {S : Type 0} → ℕ → List (Place × Slot (Instance S)) → Type 0
IsNewNode i table = (instance : ℕ) → IsNewPair i instance table

-- there is a last source, and it has this info
pub record EndsIn {S : Type 0} (info : Info) (sources : List (FrameSource S)) : Type 0 where
  pub some : 0 < length sources
  pub info_is : (front : List (FrameSource S)) (it : FrameSource S) → sources ≡ front ++ it ∷ [] → it.index.info ≡ info

-- the last source is that of the op, where the op is one
abbrev pub IsNext : {S : Type 0} → Act → List (FrameSource S) → Type 0
IsNext act sources = IfSome (source_part act) (λ (part : SourcePart). EndsIn part.info sources)

-- the source that an instance keeps, where it keeps one
abbrev pub source_of : {S : Type 0} → Instance S → List (FrameSource S)
source_of Plain = []
source_of (Scratch width) = []
source_of (Source it) = it ∷ []

-- what a node of a mode has in the table, where this is its instance
abbrev pub node_entries : {S : Type 0} → ℕ → ℕ → ℕ → Instance S → List (Place × Slot (Instance S))
node_entries mode i workers x =
    if mode == 3 then (shared_place i, Free x) ∷ [] else if mode == 2 then own_entries i x workers else []

module _ {S : Type 0} (sources left : List (FrameSource S)) (old new : List (Place × Slot (Instance S))) where
  -- the last source went to its node
  pub record Moves (i : ℕ) : Type 0 where
    pub it : FrameSource S
    pub from : sources ≡ left ++ it ∷ []
    pub to : new ≡ old ++ (shared_place i, Free (Source it)) ∷ []

  -- the instances of a node of this op were added. A source was the last of the list
  pub record Adds (act : Act) (entries : Instance S → List (Place × Slot (Instance S))) : Type 0 where
    pub value : Instance S
    pub holds : holds_of value ≡ source_info act
    pub kind : IsKindOf act value
    pub from : sources ≡ left ++ source_of value
    pub to : new ≡ old ++ entries value
