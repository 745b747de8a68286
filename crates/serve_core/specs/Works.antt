-- What an instance makes of a key of the plan, and why it may stop.
use Rattle.std.specs.Prelude.{◌≡◌, ℕ, ◌<◌, true, false, List, Option, Some, slice_get}
use Rattle.fv_io.specs.Faults.{HasRisen}
use Rattle.fv_plane.specs.Picture.{Picture, IsPicture}
use Rattle.fv_plane.specs.declared.key.Key.{Key}
use Rattle.clip_graph.specs.Plan.{Application, application_at, is_source, key_made}
use Rattle.serve_machine.specs.declared.event.WindowStop.{WindowStop}
use Rattle.serve_machine.specs.declared.event.WindowStop.TheVariants.{Read, Changed, Memory}
use Rattle.serve_core.specs.Sources.{shape_at}

-- a source shows its frame where its frames are told, and a filter makes its frame of those that it asks
pub record IsMade (plan : List Application) (k : Key) (feed : Option (List Picture)) (inputs : List Picture)
    (frame : Picture) : Type 0 where
  pub shown : is_source (application_at plan k.node).act ≡ true
      → (frames : List Picture) → feed ≡ Some frames → slice_get frames k.n ≡ Some frame
  pub filtered : is_source (application_at plan k.node).act ≡ false
      → (book : List (List Picture)) → frame ≡ key_made book plan k inputs
  pub whole : IsPicture frame
  pub shape : frame.shape ≡ shape_at plan k.node

module _ {I : Type 0} (feed : I → Option (List Picture)) (faults : I → ℕ) (ends : I → ℕ → ℕ → ℕ → Type 0) where
  -- the source of the node failed
  pub record ReadFails (plan : List Application) (i j : ℕ) (old new : I) : Type 0 where
    pub node_is : j ≡ i
    pub source : is_source (application_at plan i).act ≡ true
    pub failed : HasRisen (faults old) (faults new)

  -- the bytes of the node's source, whose frames are not told, ended too early
  pub record EndsEarly (plan : List Application) (i j frame want got : ℕ) (old new : I) : Type 0 where
    pub node_is : j ≡ i
    pub source : is_source (application_at plan i).act ≡ true
    pub untold : (frames : List Picture) → feed old ≡ Some frames → ⊥
    pub early : got < want
    pub ended : ends new frame want got

  -- why no frame of node i was made
  abbrev pub MakeStops : List Application → ℕ → I → I → WindowStop → Type 0
  MakeStops plan i old new (Read j) = ReadFails plan i j old new
  MakeStops plan i old new (Changed j frame want got) = EndsEarly plan i j frame want got old new
  MakeStops plan i old new Memory = Unit {0}
