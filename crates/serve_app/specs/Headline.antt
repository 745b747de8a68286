-- The headline: what a run of the program promises. A render that ends with status 0 has written exactly the text of
-- the clip that the script means. Any other ending has written a prefix of that text, or nothing where there is no
-- clip. Of a session the same is so for the answers to the requests of its list. Each status has the cause that it names.
-- The text of a journal that a render has put is one, as a replay of it says.
use Rattle.std.specs.Prelude.{◌≡◌, ◌⊎◌, ℕ, ◌+◌, ◌≤◌, List, Option, Some, None}
use Rattle.fv_io.specs.declared.files.Files as of_files
use Rattle.fv_io.specs.declared.sink.Sink.{Ghosts}
use Rattle.fv_io.specs.Files.{KeepsFiles, FilesFailed}
use Rattle.fv_io.specs.Sink.{Puts, PutsPrefix, IsLater, SinkFailed}
use Rattle.fv_io.specs.World.{World, InWorld}
use Rattle.fv_plane.specs.Picture.{Clip}
use Rattle.y4m_stream.specs.Stream.{stream}
use Rattle.avs_meaning.specs.Faults.{input}
use Rattle.avs_meaning.specs.declared.fault.InputFault.{InputFault}
use Rattle.avs_meaning.specs.declared.fault.ScriptKind.{ScriptKind}
use Rattle.command_line.specs.Command.{command_in}
use Rattle.command_line.specs.declared.command.Command.{Command}
use Rattle.command_line.specs.declared.command.Command.TheVariants.{Render, Info, SelfTest, Session, Replay}
use Rattle.command_line.specs.declared.command.RenderOptions.{RenderOptions}
use Rattle.command_line.specs.declared.command.Tells.{Tells}
use Rattle.command_line.specs.declared.command.Tells.TheVariants as of_tells
use Rattle.clip_graph.specs.Plan.{Application}
use Rattle.serve_machine.specs.declared.event.WindowStop.{WindowStop}
use Rattle.serve_machine.specs.declared.event.WindowStop.TheVariants.{Read, Changed, Memory}
use Rattle.serve_machine.specs.declared.windows.Record.{Record}
use Rattle.prefetch.specs.declared.pool_size.PoolSize.{PoolSize}
use Rattle.serve_app.specs.Meaning.{Meaning, MeansClip, Means, script_status, files_in}
use Rattle.serve_app.specs.Info.{IsInfoOf, IsToldInfo}
use Rattle.serve_app.specs.Journals.{cache_of, IsScriptRendered, IsReport, IsJournalText, IsLawful, ScriptCuts}
use Rattle.serve_app.specs.Replays.{HasText, IsVerdictOf, IsToldVerdict, IsJournalFault, replay_status}
use Rattle.serve_text.specs.Report.{CutsReport}
use Rattle.serve_app.specs.SelfTest.{SelfTestEnds}
use Rattle.serve_app.specs.Sessions.{IsAnswersOf, IsToldAnswers, HasAnswers, AnswersList, IsListFault, IsSessionRun, SessionCuts, FetchesList, session_status}
use Rattle.prefetch.specs.Rendered.{PutsNothing, PutsWholeFrames, EndsInFrame, IsUntorn, PutsHead, PutsNoHead, file_at}
use Rattle.serve_app.specs.Stop.{IsOfScript, ScriptHasClip, HasInfo, HasFault, HasChanged, IsScriptFault}
use Rattle.prefetch.specs.Answered.{EndsEarly}
use Rattle.serve_text.specs.Lines.{Says, usage_line, read_line, write_line, memory_line, script_line, input_line, file_line, changed_kind, file_kind}
use Rattle.serve_text.specs.declared.stop.FileFault.{FileFault}

module _ {F S K E : Type 0} (files : of_files.Ghosts F S) (sink : Ghosts K) (lines : Ghosts E)
    (f g : F) (out new : K) (err said : E) where
  module _ (script : List ℕ) where
    -- the text of this name has a fault at a line, the line of the fault is put, and nothing is on the output; no read failed
    -- before
    pub record EndsByScript : Type 0 where
      pub kind : ScriptKind
      pub name : List ℕ
      pub at : ℕ
      pub is : IsScriptFault (files.world f) script kind name at
      pub line : Says lines err said (script_line kind name at)
      pub put : PutsNothing sink out new
      pub steady : files.faults g ≡ files.faults f

    -- an input is no clip, its line is put, and nothing is on the output; no read failed before
    pub record EndsByInput : Type 0 where
      pub name : List ℕ
      pub fault : InputFault
      pub is : HasFault (files.world f) script (input name fault)
      pub line : Says lines err said (input_line name fault)
      pub put : PutsNothing sink out new
      pub steady : files.faults g ≡ files.faults f

    -- an input changed, its line is put, and of the frame and both offsets this is so
    pub record EndsByChange (Is : ℕ → ℕ → ℕ → Type 0) : Type 0 where
      pub name : List ℕ
      pub frame : ℕ
      pub want : ℕ
      pub got : ℕ
      pub is : HasChanged (files.world f)
      pub line : Says lines err said (file_line name (changed_kind frame want got))
      pub put : Is frame want got

    -- how a render ends that leaves a journal, by the stop that cut its last window short. Where none did, a write
    -- failed or memory ran out. Where an input changed, the line has its name, the frame and both places, or there is no
    -- memory for the name
    abbrev pub EndsBy : ℕ → List Application → Option WindowStop → Type 0
    EndsBy status plan None = (status ≡ 5) ⊎ (status ≡ 6)
    EndsBy status plan (Some (Read node)) = status ≡ 4
    EndsBy status plan (Some (Changed node frame want got)) =
        (status ≡ 3) × Says lines err said (file_line (file_at plan node) (changed_kind frame want got)) ⊎ (status ≡ 6)
    EndsBy status plan (Some Memory) = status ≡ 6

    -- a write to the output failed
    abbrev pub WriteFails : Type 0
    WriteFails = SinkFailed sink out new × ScriptHasClip (files.world f) script × Says lines err said write_line

    -- the causes of the statuses of a script, and the lines that name them: what shows that nothing was wrong, that an
    -- input was at fault, and that a write failed
    pub record Causes (Quiet ByInput Unwritten : Type 0) (due : World → Meaning → ℕ) (status : ℕ) : Type 0 where
      pub known : (status ≡ 0) ⊎ (2 ≤ status) × (status ≤ 6)
      pub quiet : status ≡ 0 → Quiet
      pub by_script : status ≡ 2 → EndsByScript
      pub by_input : status ≡ 3 → ByInput
      pub read : status ≡ 4 → FilesFailed files f g × Says lines err said read_line
      pub write : status ≡ 5 → Unwritten
      pub memory : status ≡ 6 → Says lines err said memory_line
      -- where nothing failed the status is the one that is due by what the script means, or memory ran out
      pub complete : (world : World) (meaning : Meaning) → files.world f ≡ Some world → Means world script meaning
          → (FilesFailed files f g → ⊥) → (Unwritten → ⊥) → (status ≡ due world meaning) ⊎ (status ≡ 6)

    -- the whole text of the clip is on the output
    abbrev pub PutsWhole : Type 0
    PutsWhole = InWorld (files.world f) (λ world.
        (clip : Clip) × MeansClip world script clip × Puts sink out new (stream clip))

    -- a render of the script, with a cache of so many frames and a pool of this size, that leaves this journal
    module _ (capacity : ℕ) (pool_size : PoolSize) (journal : Option Record) where
      -- the report of the journal was put
      pub record PutsReport : Type 0 where
        pub text : List ℕ
        pub is : IsReport (files.world f) script capacity pool_size journal text
        pub put : Puts lines err said text

      -- the text of the journal was put, and it is a journal of the script's plan, with the same cache
      pub record PutsJournal : Type 0 where
        pub text : List ℕ
        pub is : IsJournalText (files.world f) script capacity pool_size journal text
        pub put : Puts lines err said text
        pub lawful : IsLawful (files.world f) script capacity pool_size is

      -- the whole text of the clip was put, and then a text of this kind was cut short
      pub record EndsInText (IsText : List ℕ → Type 0) : Type 0 where
        pub whole : PutsWhole
        pub text : List ℕ
        pub is : IsText text
        pub cut : CutsReport lines err said text

      -- what is on `err` where all went well, by what is to be told
      abbrev pub Quiet : Tells → Type 0
      Quiet of_tells.Nothing = said ≡ err
      Quiet of_tells.Report = PutsReport
      Quiet of_tells.Journal = PutsJournal

      -- and what shows that a write failed
      abbrev pub Unwritten : Tells → Type 0
      Unwritten of_tells.Nothing = WriteFails
      Unwritten of_tells.Report = WriteFails ⊎ EndsInText (IsReport (files.world f) script capacity pool_size journal)
      Unwritten of_tells.Journal = WriteFails ⊎ EndsInText (IsJournalText (files.world f) script capacity pool_size journal)

      pub record Headline (tells : Tells) (status : ℕ) : Type 0 where
        -- the text: the whole, or a prefix; nothing where there is no clip; whole frames where no write failed
        pub whole : status ≡ 0 → PutsWhole
        pub prefix : (clip : Clip) → IsOfScript (files.world f) script clip → PutsPrefix sink out new (stream clip)
        pub nothing : InWorld (files.world f) (λ world.
            ((clip : Clip) → MeansClip world script clip → ⊥) → PutsNothing sink out new)
        pub whole_frames : (status ≡ 4) ⊎ (status ≡ 6)
            → PutsWholeFrames sink out new (IsOfScript (files.world f) script) (ScriptHasClip (files.world f) script)
        -- whatever the files hold, no frame is torn where no write failed: nothing is put, or a head and whole frames
        pub untorn : (status ≡ 5 → ⊥) → IsUntorn sink out new
        -- no fault was counted, so nothing that failed was tried again; as many files were fetched as the script reads
        pub steady : status ≡ 0 → files.faults g ≡ files.faults f
        pub fetched : status ≡ 0 → InWorld (files.world f) (λ world.
            files.fetched g ≡ files.fetched f + files_in world script)
        -- an input that changed did so after whole frames and a part of one
        pub causes : Causes (Quiet tells) (EndsByInput ⊎ EndsByChange (EndsInFrame sink out new)) (Unwritten tells)
            script_status status

      -- the journal: that of the whole render, or the beginning of it up to a stop, which the status and the line tell
      pub record RenderJournal (status : ℕ) : Type 0 where
        pub rendered : status ≡ 0 → IsScriptRendered (files.world f) script capacity pool_size journal
        pub cut : (status ≡ 0 → ⊥) → ScriptCuts (files.world f) script capacity pool_size sink out new (EndsBy status) journal
        -- there is one only where the head was put whole, and none only where it was not
        pub headed : (log : Record) → journal ≡ Some log → PutsHead sink out new (HasInfo (files.world f) script)
        pub unheaded : journal ≡ None → PutsNoHead sink out new (HasInfo (files.world f) script) (status ≡ 5)

    -- what is known of the script's clip
    pub record InfoEnds (status : ℕ) : Type 0 where
      -- the text: the whole, or a prefix; nothing where no write failed, or where there is no clip
      pub whole : status ≡ 0 → InWorld (files.world f) (λ world.
          (text : List ℕ) × IsInfoOf world script text × Puts sink out new text)
      pub prefix : (text : List ℕ) → IsToldInfo (files.world f) script text → PutsPrefix sink out new text
      pub nothing : InWorld (files.world f) (λ world.
          ((clip : Clip) → MeansClip world script clip → ⊥) → PutsNothing sink out new)
      pub unwritten : (status ≡ 4) ⊎ (status ≡ 6) → PutsNothing sink out new
      -- no fault was counted, so nothing that failed was tried again; as many files were fetched as the script reads
      pub steady : status ≡ 0 → files.faults g ≡ files.faults f
      pub fetched : status ≡ 0 → InWorld (files.world f) (λ world.
          files.fetched g ≡ files.fetched f + files_in world script)
      -- no input changes
      pub causes : Causes (said ≡ err) EndsByInput WriteFails script_status status

    -- a session with this list
    module _ (list : List ℕ) where
      -- the list isn't there, or ends with a fault after requests that were answered, and its line is put
      pub record EndsByList : Type 0 where
        pub fault : FileFault
        pub is : IsListFault (files.world f) script list sink out new fault
        pub line : Says lines err said (file_line list (file_kind fault))

      pub record SessionEnds (status : ℕ) : Type 0 where
        -- the answers: to all requests, or a prefix; nothing where there is no clip or no list
        pub whole : status ≡ 0 → AnswersList (files.world f) script list sink out new None
        pub prefix : (text : List ℕ) → IsToldAnswers (files.world f) script list text → PutsPrefix sink out new text
        pub nothing : InWorld (files.world f) (λ world.
            ((text : List ℕ) → IsAnswersOf world script list text → ⊥) → PutsNothing sink out new)
        -- no fault was counted, so nothing that failed was tried again
        pub steady : status ≡ 0 → files.faults g ≡ files.faults f
        pub causes : Causes (said ≡ err) (EndsByInput ⊎ (EndsByList ⊎ EndsByChange EndsEarly)) WriteFails
            (session_status list) status

      -- by the stop that cut the last window short, as in a render. Where none did, any but a fault of the script
      abbrev pub EndsSession : ℕ → List Application → Option WindowStop → Type 0
      EndsSession status plan None = (3 ≤ status) × (status ≤ 6)
      EndsSession status plan (Some why) = EndsBy status plan (Some why)

      -- its journal, with a cache of so many frames
      module _ (capacity : ℕ) (journal : Option Record) where
        pub record SessionJournal (status : ℕ) : Type 0 where
          -- that of all requests, or the beginning of it up to a stop
          pub run : status ≡ 0 → IsSessionRun (files.world f) script list capacity journal
          pub cut : (status ≡ 0 → ⊥) → SessionCuts (files.world f) script list capacity (EndsSession status) journal
          -- there is one where there are a clip and a list and the list was fetched, as the counts of fetches show
          pub listed : (log : Record) → journal ≡ Some log → HasAnswers (files.world f) script list
          pub fetched : FetchesList (files.world f) script journal (files.fetched f) (files.fetched g)
          -- and none where nothing was put: there is no clip or no list, or a read failed, or memory ran out
          pub unlisted : journal ≡ None → PutsNothing sink out new × InWorld (files.world f) (λ world. (text : List ℕ)
              → IsAnswersOf world script list text → (status ≡ 4) ⊎ (status ≡ 6))

    -- a replay of the file of this name, with a cache of so many frames
    module _ (name : List ℕ) (capacity : ℕ) where
      -- the file isn't there, or is too long, its line is put, and nothing is on the output
      pub record EndsByJournal : Type 0 where
        pub fault : FileFault
        pub is : IsJournalFault (files.world f) script name fault
        pub line : Says lines err said (file_line name (file_kind fault))
        pub put : PutsNothing sink out new

      pub record ReplayEnds (status : ℕ) : Type 0 where
        -- the line that says whether it is a journal: the whole, or a prefix; nothing where there is no clip or no such
        -- file, and where no write failed
        pub whole : status ≡ 0 → InWorld (files.world f) (λ world.
            (line : List ℕ) × IsVerdictOf world script name capacity line × Puts sink out new line)
        pub prefix : (line : List ℕ) → IsToldVerdict (files.world f) script name capacity line → PutsPrefix sink out new line
        pub nothing : InWorld (files.world f) (λ world.
            (HasText world script name → ⊥) → PutsNothing sink out new)
        pub unwritten : (status ≡ 4) ⊎ (status ≡ 6) → PutsNothing sink out new
        -- no fault was counted, so nothing that failed was tried again; the file and those that the script reads were fetched
        pub steady : status ≡ 0 → files.faults g ≡ files.faults f
        pub fetched : status ≡ 0 → InWorld (files.world f) (λ world.
            files.fetched g ≡ files.fetched f + 1 + files_in world script)
        -- no input changes
        pub causes : Causes (said ≡ err) (EndsByInput ⊎ EndsByJournal) WriteFails (replay_status name) status

  -- the words break the rules: nothing is touched but for the line
  pub record IsRefused (status : ℕ) : Type 0 where
    pub line : ((status ≡ 1) × Says lines err said usage_line) ⊎ ((status ≡ 6) × Says lines err said memory_line)
    pub files_stay : g ≡ f
    pub out_stays : new ≡ out

  -- what a command leaves, by who decides how many workers a render has
  module _ (pool_size : RenderOptions → PoolSize) (journal : Option Record) where
    abbrev pub CommandEnds : Command → ℕ → Type 0
    CommandEnds (Render script options) status =
        Headline script (cache_of options.cache) (pool_size options) journal options.tells status
    CommandEnds (Info script) status = InfoEnds script status
    CommandEnds (SelfTest number) status = SelfTestEnds sink lines out new err said number status × (g ≡ f)
    CommandEnds (Session script list cache) status = SessionEnds script list status
    CommandEnds (Replay script name cache) status = ReplayEnds script name (cache_of cache) status

    -- and its journal: only a render and a session leave one
    abbrev pub CommandJournal : Command → ℕ → Type 0
    CommandJournal (Render script options) status =
        RenderJournal script (cache_of options.cache) (pool_size options) journal status
    CommandJournal (Session script list cache) status = SessionJournal script list (cache_of cache) journal status
    CommandJournal _ status = journal ≡ None

  -- what a run leaves, by what the words ask for
  pub record Ends (pool_size : RenderOptions → PoolSize) (words : List (List ℕ)) (status : ℕ) (journal : Option Record) : Type 0 where
    pub asked : (command : Command) → command_in words ≡ Some command → CommandEnds pool_size journal command status
    pub refused : command_in words ≡ None → IsRefused status
    pub usage : status ≡ 1 → command_in words ≡ None
    -- no write to the output failed where the status isn't that of one, and none to standard error where all went well
    pub unfailed : (status ≡ 5 → ⊥) → sink.faults new ≡ sink.faults out
    pub unfailed_lines : status ≡ 0 → lines.faults said ≡ lines.faults err
    -- each file that was fetched is closed, and no count of faults falls
    pub keeps : KeepsFiles files f g
    pub later : IsLater sink out new
    pub later_lines : IsLater lines err said

  -- and which journal
  pub record LeavesJournal (pool_size : RenderOptions → PoolSize) (words : List (List ℕ)) (status : ℕ) (journal : Option Record)
      : Type 0 where
    pub asked : (command : Command) → command_in words ≡ Some command → CommandJournal pool_size journal command status
    pub refused : command_in words ≡ None → journal ≡ None
