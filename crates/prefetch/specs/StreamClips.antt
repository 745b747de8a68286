-- The clip of a plan over the frames that its sources tell, and what was put of it.
use Rattle.std.specs.Prelude.{◌≡◌, ℕ, ◌≤◌, List, length, map, All, Some}
use Rattle.fv_io.specs.declared.source.Source as of_source
use Rattle.fv_io.specs.declared.sink.Sink.{Ghosts}
use Rattle.fv_io.specs.Sink.{Puts, PutsPrefix, SinkFailed}
use Rattle.fv_plane.specs.Picture.{Clip, IsPictureOf, Picture}
use Rattle.y4m_stream.specs.Stream.{stream}
use Rattle.seq_source.specs.FrameSource.{FrameSource, frames_of}
use Rattle.clip_graph.specs.Plan.{Application, application_at}
use Rattle.inst_table.specs.declared.place.Place.{Place}
use Rattle.inst_table.specs.declared.place.Slot.{Slot}
use Rattle.inst_table.specs.declared.place.Slot.TheVariants.{Free}
use Rattle.inst_table.specs.Places.{slot_at}
use Rattle.serve_core.specs.Sources.{all_told}
use Rattle.serve_core.specs.Stands.{Book}
use Rattle.prefetch.specs.Windows.{clip_at}
use Rattle.prefetch.specs.Rendered.{Begins, PutsWholeFrames, EndsInFrame}
use Rattle.serve_text.specs.declared.stop.Stop.{Stop}
use Rattle.serve_text.specs.declared.stop.Stop.TheVariants as of_stop

-- the frames of each source by its number, where all are told
abbrev pub book_told : {S : Type 0} → of_source.Ghosts S → List (FrameSource S) → Book
book_told source sources = all_told (map (frames_of source) sources)

-- the clip of the root over a told book
pub record IsClipOf (plan : List Application) (root : ℕ) (book : Book) (clip : Clip) : Type 0 where
  pub pictures : List (List Picture)
  pub told : book ≡ Some pictures
  pub clip_is : clip ≡ clip_at pictures plan root

-- an instance in the table has failed
pub record SomeFailed {I : Type 0} (faults : I → ℕ) (table : List (Place × Slot I)) : Type 0 where
  pub place : Place
  pub instance : I
  pub there : slot_at place table ≡ Some (Free instance)
  pub failed : 1 ≤ faults instance

module _ {K : Type 0} (sink : Ghosts K) (plan : List Application) (root : ℕ) (book : Book) (old new : K) where
  -- the head and the first n frames were put, and no fault of the sink was counted
  pub record PutsFrames (n : ℕ) : Type 0 where
    pub part : Clip
    pub info_is : part.info ≡ (application_at plan root).info
    pub count : length part.pictures ≡ n
    pub pictures : All (IsPictureOf part.info) part.pictures
    pub begins : (clip : Clip) → IsClipOf plan root book clip → Begins part clip
    pub put : Puts sink old new (stream part)
    pub steady : sink.faults new ≡ sink.faults old

  abbrev pub PutsSome : Type 0
  PutsSome = PutsWholeFrames sink old new (IsClipOf plan root book) (Unit {0})

  -- why not all frames were put, where the instances are in this table
  module _ {I : Type 0} (faults : I → ℕ) (table : List (Place × Slot I)) where
    abbrev pub StreamShows : Stop → Type 0
    StreamShows (of_stop.Script kind name line) = ⊥
    StreamShows (of_stop.Input name fault) = ⊥
    StreamShows (of_stop.Changed name frame want got) =
        ((pictures : List (List Picture)) → book ≡ Some pictures → ⊥) × EndsInFrame sink old new frame want got
    StreamShows (of_stop.File name fault) = ⊥
    StreamShows of_stop.Read = SomeFailed faults table × PutsSome
    StreamShows of_stop.Write = SinkFailed sink old new
        × ((clip : Clip) → IsClipOf plan root book clip → PutsPrefix sink old new (stream clip))
    StreamShows of_stop.Memory = PutsSome
