-- What an instance is to contracts.
use Rattle.std.specs.Prelude.{◌≡◌, ℕ, ◌<◌, List, Option, Some, None}
use Rattle.fv_io.specs.declared.source.Source.{Ghosts}
use Rattle.fv_io.specs.Source.{SourceFailed}
use Rattle.fv_plane.specs.declared.format.Info.{Info}
use Rattle.fv_plane.specs.declared.key.Key.{Key}
use Rattle.fv_plane.specs.Picture.{Picture}
use Rattle.y4m_stream.specs.Stream.{Indexed, IsIndex}
use Rattle.seq_source.specs.FrameSource.{FrameSource, frames_of, end_of}
use Rattle.inst_table.specs.declared.held.Held.{Ghosts as HeldGhosts}
use Rattle.serve_machine.specs.declared.event.WindowStop.{WindowStop}
use Rattle.serve_machine.specs.declared.event.WindowStop.TheVariants.{Read, Changed, Memory}
use Rattle.serve_worker.specs.declared.instance.Instance.{Instance}
use Rattle.serve_worker.specs.declared.instance.Instance.TheVariants.{Plain, Scratch, Source}

-- the bytes end at `got`, which is the place of the source, before `want`, the offset just past a frame of this index
pub record EndsInFrame (index : Indexed) (place frame want got : ℕ) : Type 0 where
  pub is_index : IsIndex index
  pub inside : frame < index.info.frames
  pub want_is : want ≡ end_of index frame
  pub early : got < want
  pub at : got ≡ place

module _ {S : Type 0} (source : Ghosts S) where
  abbrev pub feed_of : Instance S → Option (List Picture)
  feed_of Plain = None
  feed_of (Scratch width) = None
  feed_of (Source it) = frames_of source it

  abbrev pub faults_of : Instance S → ℕ
  faults_of Plain = 0
  faults_of (Scratch width) = 0
  faults_of (Source it) = source.faults it.source

  abbrev pub Ends : Instance S → ℕ → ℕ → ℕ → Type 0
  Ends Plain frame want got = ⊥
  Ends (Scratch width) frame want got = ⊥
  Ends (Source it) frame want got = EndsInFrame it.index (source.place it.source) frame want got

abbrev pub holds_of : {S : Type 0} → Instance S → Option Info
holds_of Plain = None
holds_of (Scratch width) = None
holds_of (Source it) = Some it.index.info

-- why a source gave no frame of a key, by what it was before and after
module _ {S : Type 0} (source : Ghosts S) where
  pub record ReadEndsEarly (k : Key) (j frame want got : ℕ) (old new : FrameSource S) : Type 0 where
    pub node_is : j ≡ k.node
    pub untold : (frames : List Picture) → frames_of source old ≡ Some frames → ⊥
    pub ended : EndsInFrame new.index (source.place new.source) frame want got

  abbrev pub ReadStops : Key → FrameSource S → FrameSource S → WindowStop → Type 0
  ReadStops k old new (Read j) = (j ≡ k.node) × SourceFailed source old.source new.source
  ReadStops k old new (Changed j frame want got) = ReadEndsEarly k j frame want got old new
  ReadStops k old new Memory = Unit {0}

-- the instances over these sources, to contracts
abbrev pub held_of : {S : Type 0} → Ghosts S → HeldGhosts (Instance S)
held_of of = record { feed = feed_of of; faults = faults_of of; holds = holds_of; ends = Ends of }
