-- What was put of a clip, and what the calls that put it answer.
use Rattle.std.specs.Option.{option_map, unwrap_or}
use Rattle.std.specs.Prelude.{◌≡◌, length, take, ◌⊎◌, ℕ, ◌<◌, List, ◌++◌, All, true, [], Option, Some, None, Result, Ok, Err}
use Rattle.fv_io.specs.Sink.{Puts, PutsPrefix, SinkFailed}
use Rattle.fv_io.specs.declared.sink.Sink.{Ghosts}
use Rattle.fv_plane.specs.Picture.{Clip, IsPictureOf}
use Rattle.fv_plane.specs.declared.format.Info.{Info}
use Rattle.y4m_stream.specs.Head.{head}
use Rattle.y4m_stream.specs.Stream.{Indexed, IsIndex, stream}
use Rattle.seq_source.specs.FrameSource.{end_of}
use Rattle.clip_term.specs.Terms.{Act, SourcePart, source_part}
use Rattle.clip_graph.specs.Plan.{Application, application_at}
use Rattle.serve_machine.specs.Events.{names_source}
use Rattle.serve_machine.specs.declared.event.WindowStop.{WindowStop}
use Rattle.serve_machine.specs.declared.event.WindowStop.TheVariants as worker
use Rattle.serve_machine.specs.declared.windows.Record.{Record}
use Rattle.serve_text.specs.declared.stop.Stop.{Stop}
use Rattle.serve_text.specs.declared.stop.Stop.TheVariants as of_stop
use Rattle.prefetch.specs.declared.stops.RenderStop.{RenderStop}
use Rattle.prefetch.specs.declared.stops.RenderStop.TheVariants.{Stopped, Write, Memory}

-- ==== What was put of a clip: its text, a prefix of it, or its head and whole frames.

-- the clip begins as this part: it has the part's info, and its first frames are the part's
pub record Begins (part clip : Clip) : Type 0 where
  pub info : part.info ≡ clip.info
  pub pictures : part.pictures ≡ take (length part.pictures) clip.pictures

-- nothing was put
abbrev pub PutsNothing : {K : Type 0} → Ghosts K → K → K → Type 0
PutsNothing sink old new = sink.bytes new ≡ sink.bytes old

-- ---- What a render puts of a clip: its text, a prefix of it, or its head and whole frames.

module _ {K : Type 0} (sink : Ghosts K) (old new : K) where
  -- a head of this kind was put whole, and perhaps more after it
  pub record PutsHead (IsIts : Info → Type 0) : Type 0 where
    pub info : Info
    pub is : IsIts info
    pub rest : List ℕ
    pub put : Puts sink old new (head info ++ rest)

  -- the sink failed in a head of this kind
  pub record FailsInHead (IsIts : Info → Type 0) : Type 0 where
    pub info : Info
    pub is : IsIts info
    pub failed : SinkFailed sink old new
    pub cut : PutsPrefix sink old new (head info)

  -- no whole head was put: nothing was, or a write failed in the head
  abbrev pub PutsNoHead : (Info → Type 0) → Type 0 → Type 0
  PutsNoHead IsIts WriteFailed = PutsNothing sink old new ⊎ (WriteFailed × FailsInHead IsIts)

  -- nothing was put, or a head and whole frames of its shape, and no part of a frame more
  pub record PutsFramesOnly : Type 0 where
    pub part : Clip
    pub pictures : All (IsPictureOf part.info) part.pictures
    pub put : Puts sink old new (stream part)

  abbrev pub IsUntorn : Type 0
  IsUntorn = PutsNothing sink old new ⊎ PutsFramesOnly

  -- the head and whole frames were put. Each clip of the kind begins with them, and there is such a clip where the
  -- bytes are told
  pub record PutsPart (IsIts : Clip → Type 0) (HasOne : Type 0) : Type 0 where
    pub part : Clip
    pub pictures : All (IsPictureOf part.info) part.pictures
    pub put : Puts sink old new (stream part)
    pub begins : (clip : Clip) → IsIts clip → Begins part clip
    pub has_one : HasOne

  abbrev pub PutsWholeFrames : (Clip → Type 0) → Type 0 → Type 0
  PutsWholeFrames IsIts HasOne = PutsNothing sink old new ⊎ PutsPart IsIts HasOne

  -- a prefix of the text of each clip of the kind was put, and there is such a clip where the bytes are told
  pub record PutsFront (IsIts : Clip → Type 0) (HasOne : Type 0) : Type 0 where
    pub prefix : (clip : Clip) → IsIts clip → PutsPrefix sink old new (stream clip)
    pub has_one : HasOne

  -- a head and whole frames of its shape were put, and the bytes of a source ended at `got`, before `want`, the offset just
  -- past one of its frames
  pub record EndsInFrame (frame want got : ℕ) : Type 0 where
    pub index : Indexed
    pub is_index : IsIndex index
    pub inside : frame < index.info.frames
    pub want_is : want ≡ end_of index frame
    pub early : got < want
    pub part : Clip
    pub pictures : All (IsPictureOf part.info) part.pictures
    pub put : Puts sink old new (stream part)

-- ==== What the calls that put a stream answer.

-- why a head was not put whole
abbrev pub HeadStops : {K : Type 0} → Ghosts K → K → K → List ℕ → Stop → Type 0
HeadStops sink old new text (of_stop.Script kind name line) = ⊥
HeadStops sink old new text (of_stop.Input name fault) = ⊥
HeadStops sink old new text (of_stop.Changed name frame want got) = ⊥
HeadStops sink old new text (of_stop.File name fault) = ⊥
HeadStops sink old new text of_stop.Read = ⊥
HeadStops sink old new text of_stop.Write = SinkFailed sink old new × PutsPrefix sink old new text
HeadStops sink old new text of_stop.Memory = new ≡ old

-- a stop names a source of the plan
abbrev pub NamesSource : List Application → RenderStop → Type 0
NamesSource plan (Stopped why) = names_source plan why ≡ true
NamesSource plan Write = Unit {0}
NamesSource plan Memory = Unit {0}

-- the name of the file of a source
abbrev pub file_of : Act → List ℕ
file_of act = unwrap_or (option_map (λ (part : SourcePart). part.name) (source_part act)) []

abbrev pub file_at : List Application → ℕ → List ℕ
file_at plan node = file_of (application_at plan node).act

-- the stop of a render is told as this one, with the name of the file. Out of memory comes where there is none for the
-- name
abbrev pub ToldAs : List Application → RenderStop → Stop → Type 0
ToldAs plan (Stopped (worker.Read node)) stop = stop ≡ of_stop.Read
ToldAs plan (Stopped (worker.Changed node frame want got)) stop =
    (stop ≡ of_stop.Changed (file_at plan node) frame want got) ⊎ (stop ≡ of_stop.Memory)
ToldAs plan (Stopped worker.Memory) stop = stop ≡ of_stop.Memory
ToldAs plan Write stop = stop ≡ of_stop.Write
ToldAs plan Memory stop = stop ≡ of_stop.Memory

-- the stop of an answer, where it is one
abbrev pub stop_in : {X : Type 0} → Result X Stop → Option Stop
stop_in (Ok x) = None
stop_in (Err stop) = Some stop

-- the answer tells the stop that cut the last window of a journal short. Where none did there is no stop, or a write
-- failed, or it is out of memory
abbrev pub TellsStop : Option Stop → List Application → Option WindowStop → Type 0
TellsStop told plan None = (told ≡ None) ⊎ ((told ≡ Some of_stop.Write) ⊎ (told ≡ Some of_stop.Memory))
TellsStop told plan (Some (worker.Read node)) = told ≡ Some of_stop.Read
TellsStop told plan (Some (worker.Changed node frame want got)) =
    (told ≡ Some (of_stop.Changed (file_at plan node) frame want got)) ⊎ (told ≡ Some of_stop.Memory)
TellsStop told plan (Some worker.Memory) = told ≡ Some of_stop.Memory

-- a head of this kind was put whole where there is a journal, and only there
abbrev pub HeadShows : {K : Type 0} → Ghosts K → K → K → (Info → Type 0) → Option Stop → Option Record → Type 0
HeadShows sink old new IsIts told None = PutsNoHead sink old new IsIts (told ≡ Some of_stop.Write)
HeadShows sink old new IsIts told (Some log) = PutsHead sink old new IsIts
