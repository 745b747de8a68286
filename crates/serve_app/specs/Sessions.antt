-- A session over files: what the requests of a list are answered with, over the clip that a script means.
use Rattle.std.specs.Prelude.{◌≡◌, ◌⊎◌, ℕ, ◌+◌, ◌≤◌, List, Option, Some, None, Result, Ok, Err, OnSome, OnOk, IfErr}
use Rattle.std.specs.FinMap.{get}
use Rattle.std.specs.Option.{ForSome}
use Rattle.fv_io.specs.declared.files.FetchFault.{FetchFault}
use Rattle.fv_io.specs.declared.files.FetchFault.TheVariants as of_fetch
use Rattle.fv_io.specs.declared.sink.Sink.{Ghosts}
use Rattle.fv_io.specs.Sink.{Puts, PutsPrefix, SinkFailed}
use Rattle.fv_io.specs.World.{World, InWorld}
use Rattle.fv_plane.specs.Picture.{bytes_of, Clip, picture_at}
use Rattle.fv_session.specs.Answers.{answers}
use Rattle.fv_session.specs.Requests.{Asked, requests}
use Rattle.fv_session.specs.declared.request.Request.{Request}
use Rattle.fv_session.specs.declared.request.SessionFault.{SessionFault}
use Rattle.fv_session.specs.declared.request.SessionFault.TheVariants as of_fault
use Rattle.clip_graph.specs.Plan.{Application}
use Rattle.avs_meaning.specs.Faults.{input}
use Rattle.prefetch.specs.Rendered.{PutsNothing, TellsStop}
use Rattle.serve_machine.specs.declared.event.WindowStop.{WindowStop}
use Rattle.serve_machine.specs.declared.windows.Record.{Record}
use Rattle.serve_machine.specs.Events.{windows_of}
use Rattle.serve_text.specs.InfoText.{clip_line}
use Rattle.serve_text.specs.StopKinds.{status_of_stop}
use Rattle.serve_text.specs.declared.stop.FileFault.{FileFault}
use Rattle.serve_text.specs.declared.stop.FileFault.TheVariants as of_file
use Rattle.serve_text.specs.declared.stop.Stop.{Stop}
use Rattle.serve_text.specs.declared.stop.Stop.TheVariants as of_stop
use Rattle.prefetch.specs.Answered.{EndsEarly, AreWindowsIn, numbers_asked, session_windows}
use Rattle.prefetch.specs.declared.session.SessionStop.{SessionStop}
use Rattle.prefetch.specs.declared.session.SessionStop.TheVariants.{Stopped, ListFault as OfList}
use Rattle.serve_app.specs.Journals.{IsPlanOf}
use Rattle.serve_app.specs.Meaning.{Meaning, a_clip, a_fault, MeansClip, status_of_fault, files_in}
use Rattle.serve_app.specs.Stop.{ScriptHasClip, HasFault, HasChanged, IsScriptFault}

-- ---- answers

-- what requests are answered with, over a clip
abbrev pub answers_of : Clip → List Request → List ℕ
answers_of clip asks = answers clip.info.frames (λ n. bytes_of (picture_at clip n)) (clip_line clip.info) asks

-- In this world the script means a clip, the file of the list is there, and its requests are answered with this text.
pub record IsAnswersOf (world : World) (script list text : List ℕ) : Type 0 where
  pub clip : Clip
  pub means : MeansClip world script clip
  pub bytes : List ℕ
  pub bytes_are : get world list ≡ Some bytes
  pub text_is : text ≡ answers_of clip (requests bytes).requests

-- a world is told, and these are the answers in it
pub record IsToldAnswers (told : Option World) (script list text : List ℕ) : Type 0 where
  pub world : World
  pub told_is : told ≡ Some world
  pub is : IsAnswersOf world script list text

-- where a world is told, the script means a clip in it and the file of the list is there
abbrev pub HasAnswers : Option World → List ℕ → List ℕ → Type 0
HasAnswers told script list = InWorld told (λ world. (text : List ℕ) × IsAnswersOf world script list text)

-- what the file of this name asks is so, in a told world that has the file
abbrev pub InList : Option World → List ℕ → (Asked → Type 0) → Type 0
InList told list Is = InWorld told (λ world. ForSome (get world list) (λ bytes. Is (requests bytes)))

-- all requests were answered, and the list ends with this fault or with none
pub record AnswersList {K : Type 0} (told : Option World) (script list : List ℕ) (sink : Ghosts K) (old new : K)
    (fault : Option SessionFault) : Type 0 where
  pub put : InWorld told (λ world. (text : List ℕ) × IsAnswersOf world script list text × Puts sink old new text)
  pub fault_is : InList told list (λ asked. asked.fault ≡ fault)

-- ---- statuses

abbrev pub status_of_end : Option SessionFault → ℕ
status_of_end None = 0
status_of_end (Some fault) = 3

abbrev pub status_of_list : Option (List ℕ) → ℕ
status_of_list None = 3
status_of_list (Some bytes) = status_of_end (requests bytes).fault

abbrev pub status_by : Meaning → Option (List ℕ) → ℕ
status_by (a_clip clip) listed = status_of_list listed
status_by (a_fault fault) listed = status_of_fault fault

-- the status of a session, where nothing fails
abbrev pub session_status : List ℕ → World → Meaning → ℕ
session_status list world meaning = status_by meaning (get world list)

-- ---- the journal

module _ (told : Option World) (script list : List ℕ) (capacity : ℕ) where
  -- its windows are those of the serial run of the script's plan over the frames that all requests ask for
  pub record IsSessionRun (journal : Option Record) : Type 0 where
    pub plan : List Application
    pub root : ℕ
    pub is_plan : IsPlanOf told script plan root
    pub asks : List Request
    pub all : InList told list (λ asked. asked ≡ record { requests = asks; fault = None })
    pub log : Record
    pub there : journal ≡ Some log
    pub windows_are : windows_of log ≡ session_windows plan root capacity (numbers_asked plan root capacity asks)

  module _ (IsEnd : List Application → Option WindowStop → Type 0) where
    -- its windows are the first of those, and perhaps one more that a stop cut short; it ended in this way
    pub record IsSessionCut (log : Record) : Type 0 where
      pub plan : List Application
      pub root : ℕ
      pub is_plan : IsPlanOf told script plan root
      pub stop : Option WindowStop
      pub ends : IsEnd plan stop
      pub windows_are : AreWindowsIn plan root capacity (InList told list) stop (windows_of log)

    abbrev pub SessionCuts : Option Record → Type 0
    SessionCuts None = Unit {0}
    SessionCuts (Some log) = IsSessionCut log

-- ---- how it ends

-- the stop of a run whose list or journal, of this name, could not be opened
abbrev pub fetch_stop : List ℕ → FetchFault → Stop
fetch_stop name of_fetch.NotThere = of_stop.File name of_file.NotThere
fetch_stop name of_fetch.Failed = of_stop.Read
fetch_stop name of_fetch.Memory = of_stop.Memory

-- the stop of a session that ended for its list
abbrev pub list_stop : List ℕ → SessionFault → Stop
list_stop list of_fault.Read = of_stop.Read
list_stop list of_fault.LineTooLong = of_stop.File list of_file.LineTooLong
list_stop list of_fault.TooManyLines = of_stop.File list of_file.TooManyLines

abbrev pub stop_with : List ℕ → SessionStop → Stop
stop_with list (Stopped stop) = stop
stop_with list (OfList fault) = list_stop list fault

-- how a session ended, told with the name of its list
abbrev pub ended_with : List ℕ → Result (Unit {0}) SessionStop → Result (Unit {0}) Stop
ended_with list (Ok u) = Ok u
ended_with list (Err why) = Err (stop_with list why)

-- the stop that cut the last window short is told, where one did; where none did it is no fault of the script
abbrev pub TellsCut : Stop → List Application → Option WindowStop → Type 0
TellsCut stop plan None = 3 ≤ status_of_stop stop
TellsCut stop plan (Some why) = TellsStop (Some stop) plan (Some why)

module _ {K : Type 0} (told : Option World) (script list : List ℕ) (sink : Ghosts K) (old new : K) where
  -- a list that isn't there, with nothing put, or one whose requests were answered and that ends with a fault
  abbrev pub IsListFault : FileFault → Type 0
  IsListFault of_file.NotThere =
      ScriptHasClip told script × InWorld told (λ world. get world list ≡ None) × PutsNothing sink old new
  IsListFault of_file.LineTooLong = AnswersList told script list sink old new (Some of_fault.LineTooLong)
  IsListFault of_file.TooManyLines = AnswersList told script list sink old new (Some of_fault.TooManyLines)
  IsListFault of_file.JournalTooLong = ⊥

  module _ (failed : Type 0) where
    -- what a stop of the session shows, where a read failed only if this holds
    abbrev pub SessionShows : Stop → Type 0
    SessionShows (of_stop.Script kind name line) = IsScriptFault told script kind name line × PutsNothing sink old new
    SessionShows (of_stop.Input name fault) = HasFault told script (input name fault) × PutsNothing sink old new
    SessionShows (of_stop.Changed name frame want got) = HasChanged told × EndsEarly frame want got
    SessionShows (of_stop.File name fault) = (name ≡ list) × IsListFault fault
    SessionShows of_stop.Read = failed
    SessionShows of_stop.Write = SinkFailed sink old new × ScriptHasClip told script
    SessionShows of_stop.Memory = Unit {0}

    -- nothing was put, and where there are answers a read failed or memory ran out
    pub record IsUnlisted (done : Result (Unit {0}) Stop) : Type 0 where
      pub put : PutsNothing sink old new
      pub why : IfErr done (λ stop. InWorld told (λ world. (text : List ℕ) → IsAnswersOf world script list text
          → (stop ≡ of_stop.Read) ⊎ (stop ≡ of_stop.Memory)))

    -- the session of this script and list, with a cache of so many frames
    pub record IsScriptSession (capacity : ℕ) (journal : Option Record) (done : Result (Unit {0}) Stop) : Type 0 where
      -- all requests were answered, or what stopped it, with a prefix of the answers put
      pub whole : OnOk done (AnswersList told script list sink old new None)
      pub stop : IfErr done SessionShows
      pub prefix : (text : List ℕ) → IsToldAnswers told script list text → PutsPrefix sink old new text
      -- there is a journal where the list was opened: it is that of all requests, or the beginning of it
      pub listed : (log : Record) → journal ≡ Some log → HasAnswers told script list
      pub unlisted : journal ≡ None → IsUnlisted done
      pub run : OnOk done (IsSessionRun told script list capacity journal)
      pub cut : IfErr done (λ stop. SessionCuts told script list capacity (TellsCut stop) journal)

-- The list was fetched, and beside it as many files as the script reads, by the counts of fetches before and now.
abbrev pub FetchesList : Option World → List ℕ → Option Record → ℕ → ℕ → Type 0
FetchesList told script journal fetches fetches_now =
    OnSome journal (InWorld told (λ world. fetches_now ≡ fetches + 1 + files_in world script))
