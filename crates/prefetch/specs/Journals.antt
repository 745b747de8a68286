-- The journal of a render, by the number of its workers: one worker makes the serial run, and several make runs of the
-- machine in which each does whole work. The whole serial run is of such runs too.
use Rattle.std.specs.Prelude.{◌≡◌, ℕ, ◌<◌, true, List, Option, Some, None, ◌⊎◌, ◌≤◌, length, take, All}
use Rattle.clip_graph.specs.Plan.{Application, application_at}
use Rattle.inst_table.specs.declared.place.Place.{Place}
use Rattle.serve_machine.specs.declared.event.WindowStop.{WindowStop}
use Rattle.serve_machine.specs.Events.{names_source, WindowEvents, windows_of}
use Rattle.serve_machine.specs.Journals.{AreFirst, AreCut, IsWholeJournal, AreCrewFirst, AreCrewCut}
use Rattle.prefetch.specs.declared.pool_size.Pool.{Pool}
use Rattle.fv_io.specs.declared.sink.Sink.{Ghosts}
use Rattle.fv_io.specs.Sink.{Puts, PutsPrefix, SinkFailed}
use Rattle.fv_plane.specs.Picture.{Clip, IsPictureOf}
use Rattle.y4m_stream.specs.Stream.{stream}
use Rattle.serve_machine.specs.declared.windows.Record.{Record}
use Rattle.prefetch.specs.Rendered.{Begins}
use Rattle.prefetch.specs.Windows.{frames_at}

module _ (plan : List Application) (root capacity : ℕ) (by : Pool) (total : ℕ) where
  -- the windows of the whole render
  pub record IsWholeBy (windows : List WindowEvents) : Type 0 where
    pub alone : by.workers ≡ 1 → IsWholeJournal plan root capacity by.window total windows
    pub crew : 0 < by.workers
        → (places : List Place) × AreCrewFirst plan root capacity by.workers places by.window total windows total

  -- whole windows with the first n outputs
  pub record IsFirstBy (windows : List WindowEvents) (n : ℕ) : Type 0 where
    pub alone : by.workers ≡ 1 → AreFirst plan root capacity by.window total windows n
    pub crew : 0 < by.workers
        → (places : List Place) × AreCrewFirst plan root capacity by.workers places by.window total windows n

  -- and after them one that this stop cut short
  pub record IsCutBy (why : WindowStop) (windows : List WindowEvents) (n : ℕ) : Type 0 where
    pub named : names_source plan why ≡ true
    pub alone : by.workers ≡ 1 → AreCut plan root capacity by.window total why windows n
    pub crew : 0 < by.workers
        → (places : List Place) × AreCrewCut plan root capacity by.workers places by.window total why windows n

  abbrev pub IsJournalBy : Option WindowStop → List WindowEvents → ℕ → Type 0
  IsJournalBy None windows n = IsFirstBy windows n
  IsJournalBy (Some why) windows n = IsCutBy why windows n

-- ---- The journal of a render, and what was put beside it.

module _ (plan : List Application) (root capacity : ℕ) (by : Pool) where
  -- the journal is that of a whole render, from an empty cache
  pub record IsRendered (journal : Option Record) : Type 0 where
    pub log : Record
    pub there : journal ≡ Some log
    pub whole : IsWholeBy plan root capacity by (frames_at plan root) (windows_of log)

  module _ {K : Type 0} (sink : Ghosts K) (old new : K) (IsIts : Clip → Type 0) where
    -- the head of the root and n frames were put, with which each clip of the kind begins
    pub record PutsCount (n : ℕ) : Type 0 where
      pub part : Clip
      pub info_is : part.info ≡ (application_at plan root).info
      pub pictures : All (IsPictureOf part.info) part.pictures
      pub count : length part.pictures ≡ n
      pub begins : (clip : Clip) → IsIts clip → Begins part clip
      pub put : Puts sink old new (stream part)

    -- the sink failed, and of each clip of the kind a prefix of the head and the first n frames was put
    pub record FailsWithin (n : ℕ) : Type 0 where
      pub failed : SinkFailed sink old new
      pub cut : (clip : Clip) → IsIts clip
          → PutsPrefix sink old new (stream (record clip { pictures = take n clip.pictures }))

    -- the journal is whole windows, and where there is a stop the one after them that it cut short. The frames of the
    -- whole windows were put, or the sink failed in them
    pub record IsCutShort (stop : Option WindowStop) (log : Record) : Type 0 where
      pub n : ℕ
      pub few : n ≤ frames_at plan root
      pub windows : IsJournalBy plan root capacity by (frames_at plan root) stop (windows_of log) n
      pub put : PutsCount n ⊎ FailsWithin n

    -- where there is a journal, the answer is of this kind by the stop of its last window
    abbrev pub CutsShort : (Option WindowStop → Type 0) → Option Record → Type 0
    CutsShort IsAnswer None = Unit {0}
    CutsShort IsAnswer (Some log) = (stop : Option WindowStop) × IsAnswer stop × IsCutShort stop log
