-- What a session leaves: the answers that were put, why no more were, and the journal.
use Rattle.std.specs.Prelude.{◌≡◌, ◌⊎◌, ℕ, ◌<◌, true, List, [], ◌∷◌, ◌++◌, drop, Option, Some, None, Result, OnOk, IfErr}
use Rattle.std.specs.Option.{ForSome}
use Rattle.fv_io.specs.declared.source.Source as of_source
use Rattle.fv_io.specs.declared.sink.Sink.{Ghosts}
use Rattle.fv_io.specs.Sink.{Puts, PutsPrefix, SinkFailed}
use Rattle.fv_io.specs.Source.{IsSteady, SourceFailed}
use Rattle.fv_plane.specs.Picture.{Picture}
use Rattle.seq_source.specs.FrameSource.{end_of}
use Rattle.y4m_stream.specs.Stream.{Indexed, IsIndex}
use Rattle.fv_session.specs.Answers.{answers, frames_asked}
use Rattle.fv_session.specs.Requests.{Asked, requests}
use Rattle.fv_session.specs.declared.request.Request.{Request}
use Rattle.fv_session.specs.declared.request.SessionFault.{SessionFault}
use Rattle.fv_session.specs.declared.request.SessionFault.TheVariants as of_fault
use Rattle.clip_graph.specs.Plan.{Application}
use Rattle.inst_table.specs.declared.place.Place.{Place}
use Rattle.inst_table.specs.declared.place.Slot.{Slot}
use Rattle.serve_core.specs.Stands.{Book}
use Rattle.serve_machine.specs.declared.event.Event.{Event}
use Rattle.serve_machine.specs.declared.event.WindowStop.{WindowStop}
use Rattle.serve_machine.specs.declared.windows.Record.{Record}
use Rattle.serve_machine.specs.Events.{names_source, WindowEvents, windows_of}
use Rattle.serve_machine.specs.Work.{FailedWork}
use Rattle.prefetch.specs.Windows.{windows_asked, frames_at}
use Rattle.serve_text.specs.declared.stop.Stop.TheVariants as of_stop
use Rattle.prefetch.specs.declared.session.SessionStop.{SessionStop}
use Rattle.prefetch.specs.declared.session.SessionStop.TheVariants.{Stopped, ListFault}
use Rattle.prefetch.specs.StreamClips.{SomeFailed}
use Rattle.prefetch.specs.Played.{frame_bytes_at, line_at}
use Rattle.prefetch.specs.Rendered.{TellsStop}

-- the stop that cut the last window short is told. Where none did, a read of the list or a write failed, the list has a
-- fault, or memory ran out
abbrev pub TellsSession : SessionStop → List Application → Option WindowStop → Type 0
TellsSession (Stopped stop) plan None = (stop ≡ of_stop.Read) ⊎ ((stop ≡ of_stop.Write) ⊎ (stop ≡ of_stop.Memory))
TellsSession (ListFault fault) plan None = Unit {0}
TellsSession (Stopped stop) plan (Some why) = TellsStop (Some stop) plan (Some why)
TellsSession (ListFault fault) plan (Some why) = ⊥

-- the bytes of a source ended at `got`, before `want`, the offset just past one of its frames
pub record EndsEarly (frame want got : ℕ) : Type 0 where
  pub index : Indexed
  pub is_index : IsIndex index
  pub inside : frame < index.info.frames
  pub want_is : want ≡ end_of index frame
  pub early : got < want

module _ (plan : List Application) (root capacity : ℕ) where
  -- the numbers of frames that requests ask for, of those that there are
  abbrev pub numbers_asked : List Request → List ℕ
  numbers_asked asks = frames_asked (frames_at plan root) asks

  -- the windows of the serial run over these numbers, from an empty cache
  abbrev pub session_windows : List ℕ → List WindowEvents
  session_windows ns = windows_asked plan root capacity [] ns

  -- and after them one of the next number that this stop cut short
  pub record IsCutSession (why : WindowStop) (windows : List WindowEvents) (ns : List ℕ) (n : ℕ) : Type 0 where
    pub events : List Event
    pub windows_are : windows ≡ session_windows ns ++ record { first = n; count = 1; events = events } ∷ []
    pub cut : FailedWork plan root 0 why events
    pub named : names_source plan why ≡ true

  -- by what holds of all that a list asks
  module _ (InAll : (Asked → Type 0) → Type 0) where
    -- it asks for these numbers first
    abbrev pub AreAskedFirst : List ℕ → Type 0
    AreAskedFirst ns = InAll (λ asked. (rest : List ℕ) × (numbers_asked asked.requests ≡ ns ++ rest))

    -- the windows are the first of those of the list, and where there is a stop one after them that it cut short
    abbrev pub AreWindowsIn : Option WindowStop → List WindowEvents → Type 0
    AreWindowsIn None windows = (ns : List ℕ) × AreAskedFirst ns × (windows ≡ session_windows ns)
    AreWindowsIn (Some why) windows = (ns : List ℕ) × (n : ℕ) × AreAskedFirst (ns ++ n ∷ []) × IsCutSession why windows ns n

  -- what requests are answered with, over the frames of the sources
  abbrev pub answers_over : List (List Picture) → List Request → List ℕ
  answers_over book asks =
      answers (frames_at plan root) (λ n. frame_bytes_at book plan root n) (line_at plan root) asks

  module _ {I L K : Type 0} (faults : I → ℕ) (book : Book) (list : of_source.Ghosts L) (s t : L) (sink : Ghosts K)
      (old new : K) where
    -- what the list asks is so, where it tells its bytes
    abbrev pub InList : (Asked → Type 0) → Type 0
    InList Is = ForSome (list.bytes s) (λ told. Is (requests (drop (list.place s) told)))

    abbrev pub PutsAnswers : List Request → Type 0
    PutsAnswers asks = (pictures : List (List Picture)) → book ≡ Some pictures → Puts sink old new (answers_over pictures asks)

    -- all requests were answered
    pub record AnswersAll (windows : List WindowEvents) : Type 0 where
      pub asks : List Request
      pub all : InList (λ asked. asked ≡ record { requests = asks; fault = None })
      pub put : PutsAnswers asks
      pub windows_are : windows ≡ session_windows (numbers_asked asks)
      pub steady : IsSteady list s t

    -- the list ends with this fault, after requests that were answered
    pub record EndsWith (fault : SessionFault) : Type 0 where
      pub asks : List Request
      pub all : InList (λ asked. asked ≡ record { requests = asks; fault = Some fault })
      pub put : PutsAnswers asks

    -- why not all were answered, where the instances are in this table
    module _ (table : List (Place × Slot I)) where
      abbrev pub AnswerShows : SessionStop → Type 0
      AnswerShows (Stopped (of_stop.Changed name frame want got)) =
          ((pictures : List (List Picture)) → book ≡ Some pictures → ⊥) × EndsEarly frame want got
      AnswerShows (Stopped of_stop.Read) = SomeFailed faults table ⊎ SourceFailed list s t
      AnswerShows (Stopped of_stop.Write) = SinkFailed sink old new
      AnswerShows (Stopped of_stop.Memory) = Unit {0}
      AnswerShows (Stopped _) = ⊥
      AnswerShows (ListFault of_fault.Read) = ⊥
      AnswerShows (ListFault fault) = EndsWith fault

    -- not all requests were answered: a prefix of all answers was put
    pub record AnswersSome (table : List (Place × Slot I)) (windows : List WindowEvents) (why : SessionStop) : Type 0 where
      pub prefix : InList (λ asked. (pictures : List (List Picture)) → book ≡ Some pictures
          → PutsPrefix sink old new (answers_over pictures asked.requests))
      pub shows : AnswerShows table why
      pub cut : Option WindowStop
      pub windows_are : AreWindowsIn InList cut windows
      pub told : TellsSession why plan cut

    -- what a session leaves: the journal has a window for each frame that was made
    pub record IsAnswered (journal : Option Record) (table : List (Place × Slot I)) (done : Result (Unit {0}) SessionStop)
        : Type 0 where
      pub log : Record
      pub there : journal ≡ Some log
      pub all : OnOk done (AnswersAll (windows_of log))
      pub stop : IfErr done (AnswersSome table (windows_of log))
