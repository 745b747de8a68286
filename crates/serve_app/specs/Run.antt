-- What a command does, and what is said of it.
use Rattle.std.specs.Prelude.{◌≡◌, ℕ, ◌+◌, ◌<◌, if◌then◌else◌, List, Option, Some, None, Result, Ok, Err, OnOk}
use Rattle.std.specs.List.{AllByRecursion}
use Rattle.fv_io.specs.declared.files.Files as of_files
use Rattle.fv_io.specs.declared.sink.Sink.{Ghosts}
use Rattle.fv_io.specs.Files.{FilesFailed}
use Rattle.fv_io.specs.World.{InWorld}
use Rattle.command_line.specs.declared.command.Command.{Command}
use Rattle.command_line.specs.declared.command.Command.TheVariants.{Render, Info, SelfTest, Session, Replay}
use Rattle.command_line.specs.declared.command.Tells.{Tells}
use Rattle.command_line.specs.declared.command.Tells.TheVariants as of_tells
use Rattle.command_line.specs.declared.command.RenderOptions.{RenderOptions}
use Rattle.clip_graph.specs.Plan.{Application}
use Rattle.run_text.specs.Lines.{LineFits, journal_lines, journal_text}
use Rattle.serve_text.specs.Report.{report, Reports}
use Rattle.serve_text.specs.declared.stop.Stop.{Stop}
use Rattle.serve_text.specs.StopKinds.{status_of_stop}
use Rattle.serve_machine.specs.declared.windows.Record.{Record}
use Rattle.serve_machine.specs.Events.{windows_of}
use Rattle.prefetch.specs.declared.pool_size.PoolSize.{PoolSize}
use Rattle.prefetch.specs.declared.pool_size.PoolSize.TheVariants.{One, Asked}
use Rattle.prefetch.specs.declared.stream.RenderedClip.{RenderedClip}
use Rattle.prefetch.specs.Windows.{AreThreads}
use Rattle.prefetch.specs.Rendered.{PutsFramesOnly, stop_in, TellsStop, HeadShows}
use Rattle.serve_app.specs.declared.entry.Telling.{Telling}
use Rattle.serve_app.specs.declared.entry.Telling.TheVariants as telling
use Rattle.serve_app.specs.Info.{InfoShows, PutsInfo}
use Rattle.serve_app.specs.Journals.{cache_of, IsScriptRendered, IsRunOf, ScriptCuts}
use Rattle.serve_text.specs.Lines.{Says, stop_line}
use Rattle.serve_app.specs.Renders.{PutsClip}
use Rattle.serve_app.specs.Meaning.{ReadsOnce, files_in}
use Rattle.serve_app.specs.Replays.{IsScriptReplay}
use Rattle.serve_app.specs.SelfTest.{PutsSelfLine, SelfTestShows}
use Rattle.serve_app.specs.Sessions.{IsScriptSession, FetchesList}
use Rattle.serve_app.specs.Stop.{RenderShows, ScriptHasClip, HasInfo}

-- the options of a render are in their ranges: the cache holds a frame, and 1 to 16 threads are asked for, if any
abbrev pub AreFit : RenderOptions → Type 0
AreFit options = (0 < cache_of options.cache) × AreThreads options.threads

abbrev pub IsFit : Command → Type 0
IsFit (Render script options) = AreFit options
IsFit (Info script) = Unit {0}
IsFit (SelfTest number) = Unit {0}
IsFit (Session script list cache) = 0 < cache_of cache
IsFit (Replay script name cache) = 0 < cache_of cache

-- a command but a render
abbrev pub IsOther : Command → Type 0
IsOther (Render script options) = ⊥
IsOther _ = Unit {0}

-- who decides how many workers a render has: nobody where one renders alone, and else the words or the script
abbrev pub plain_size : RenderOptions → PoolSize
plain_size options = One

abbrev pub size_by : RenderOptions → PoolSize
size_by options = if options.plain then One else Asked options.threads

-- what is told of a whole render, by what is asked for
abbrev pub telling_of : Tells → RenderedClip → Telling
telling_of of_tells.Nothing all = telling.Nothing
telling_of of_tells.Report all = telling.Report all.graph
telling_of of_tells.Journal all = telling.Journal all.workers

abbrev pub told_in : Tells → Result RenderedClip Stop → Result Telling Stop
told_in tells (Ok all) = Ok (telling_of tells all)
told_in tells (Err stop) = Err stop

module _ {F S K : Type 0} (files : of_files.Ghosts F S) (sink : Ghosts K) (f g : F) (out new : K) where
  -- it was said whether the file of this name is a journal, with a cache of so many frames
  pub record ReplayDoes (script name : List ℕ) (capacity : ℕ) (done : Result (Unit {0}) Stop) : Type 0 where
    pub replay : IsScriptReplay (files.world f) script name capacity sink out new (FilesFailed files f g) done
    pub steady : OnOk done (files.faults g ≡ files.faults f)
    pub fetched : OnOk done (InWorld (files.world f) (λ world. files.fetched g ≡ files.fetched f + 1 + files_in world script))

-- what each command shows at its end. Where a report or a journal is asked for, it answers what the text is made of
module _ {F S K : Type 0} (files : of_files.Ghosts F S) (sink : Ghosts K) (f g : F) (out new : K) (journal : Option Record) where
  -- the clip of the script was put
  abbrev pub PutsAll : List ℕ → Type 0
  PutsAll script = (frames : ℕ) × InWorld (files.world f) (λ world. PutsClip sink world script out new frames)

  -- no fault of the files was counted, and each was fetched as often as the script reads it
  abbrev pub Reads : List ℕ → Type 0
  Reads script = ReadsOnce (files.world f) script (files.faults f) (files.faults g) (files.fetched f) (files.fetched g)

  -- the journal is that of a whole render, and this is to be told of it
  abbrev pub IsToldOf : List ℕ → RenderOptions → PoolSize → Telling → Type 0
  IsToldOf script options pool_size telling.Nothing = (options.tells ≡ of_tells.Nothing)
      × IsScriptRendered (files.world f) script (cache_of options.cache) pool_size journal
  IsToldOf script options pool_size (telling.Report plan) = (options.tells ≡ of_tells.Report)
      × (workers : ℕ) × IsRunOf (files.world f) script (cache_of options.cache) pool_size journal plan workers
  IsToldOf script options pool_size (telling.Journal workers) = (options.tells ≡ of_tells.Journal)
      × (plan : List Application) × IsRunOf (files.world f) script (cache_of options.cache) pool_size journal plan workers

  abbrev pub RenderDoes : List ℕ → RenderOptions → PoolSize → Result Telling Stop → Type 0
  RenderDoes script options pool_size (Ok tells) =
      PutsAll script × Reads script × PutsFramesOnly sink out new × IsToldOf script options pool_size tells
  RenderDoes script options pool_size (Err stop) = RenderShows (FilesFailed files f g) sink (files.world f) script out new stop

  -- requests were answered, by one worker
  pub record SessionDoes (script list : List ℕ) (capacity : ℕ) (done : Result (Unit {0}) Stop) : Type 0 where
    pub session : IsScriptSession (files.world f) script list sink out new (FilesFailed files f g) capacity journal done
    pub steady : OnOk done (files.faults g ≡ files.faults f)
    pub fetched : FetchesList (files.world f) script journal (files.fetched f) (files.fetched g)

  abbrev pub Does : (RenderOptions → PoolSize) → Command → Result Telling Stop → Type 0
  Does pool_size (Render script options) done = RenderDoes script options (pool_size options) done
      × ScriptCuts (files.world f) script (cache_of options.cache) (pool_size options) sink out new
      (TellsStop (stop_in done)) journal × HeadShows sink out new (HasInfo (files.world f) script) (stop_in done) journal
  Does pool_size (Info script) (Ok telling.Nothing) =
      InWorld (files.world f) (λ world. PutsInfo sink world script out new) × ScriptHasClip (files.world f) script
      × Reads script
  Does pool_size (Info script) (Ok _) = ⊥
  Does pool_size (Info script) (Err stop) = InfoShows (FilesFailed files f g) sink (files.world f) script out new stop
  Does pool_size (SelfTest number) (Ok telling.Nothing) = PutsSelfLine sink out new number × (g ≡ f)
  Does pool_size (SelfTest number) (Ok _) = ⊥
  Does pool_size (SelfTest number) (Err stop) = SelfTestShows sink out new number stop × (g ≡ f)
  Does pool_size (Session script list cache) (Ok telling.Nothing) = SessionDoes script list (cache_of cache) (Ok tt)
  Does pool_size (Session script list cache) (Ok _) = ⊥
  Does pool_size (Session script list cache) (Err stop) = SessionDoes script list (cache_of cache) (Err stop)
  Does pool_size (Replay script name cache) (Ok telling.Nothing) = ReplayDoes files sink f g out new script name (cache_of cache) (Ok tt)
  Does pool_size (Replay script name cache) (Ok _) = ⊥
  Does pool_size (Replay script name cache) (Err stop) = ReplayDoes files sink f g out new script name (cache_of cache) (Err stop)

-- a journal is left only by a render and by a session
abbrev pub LeavesNone : Command → Option Record → Type 0
LeavesNone (Render script options) journal = Unit {0}
LeavesNone (Info script) journal = journal ≡ None
LeavesNone (SelfTest number) journal = journal ≡ None
LeavesNone (Session script list cache) journal = Unit {0}
LeavesNone (Replay script name cache) journal = journal ≡ None

-- a report or a journal is told only where there is a journal
abbrev pub HasLog : Result Telling Stop → Option Record → Type 0
HasLog (Ok telling.Nothing) journal = Unit {0}
HasLog (Ok _) None = ⊥
HasLog (Ok _) (Some log) = Unit {0}
HasLog (Err stop) journal = Unit {0}

-- the status of what was done, and its report, its journal or its line
module _ {E : Type 0} (lines : Ghosts E) (err said : E) where
  -- the journal was printed, and then each number fits its line, or it was cut short
  pub record Prints (workers : ℕ) (log : Record) (status : ℕ) : Type 0 where
    pub put : Reports lines err said (journal_text workers (windows_of log)) status
    pub fits : status ≡ 0 → AllByRecursion LineFits (journal_lines workers (windows_of log))

  abbrev pub Finishes : Result Telling Stop → Option Record → ℕ → Type 0
  Finishes (Ok telling.Nothing) journal status = (status ≡ 0) × (said ≡ err)
  Finishes (Ok _) None status = ⊥
  Finishes (Ok (telling.Report plan)) (Some log) status = Reports lines err said (report plan (windows_of log)) status
  Finishes (Ok (telling.Journal workers)) (Some log) status = Prints workers log status
  Finishes (Err stop) journal status = (status ≡ status_of_stop stop) × Says lines err said (stop_line stop)
