-- A replay: whether a file is a journal of a script's clip, and the line that says so.
use Rattle.std.specs.Prelude.{◌≡◌, ℕ, ◌<◌, ◌≤◌, nat_le, List, length, Option, Some, None, Result, Ok, Err, OnOk, IfErr, Vec, if◌then◌else◌}
use Rattle.std.specs.FinMap.{get}
use Rattle.std.specs.declared.alloc.Global.{Global}
use Rattle.std.specs.Option.{ForSome}
use Rattle.fv_io.specs.declared.sink.Sink.{Ghosts}
use Rattle.fv_io.specs.Sink.{Puts, PutsPrefix, SinkFailed}
use Rattle.fv_io.specs.World.{World, InWorld}
use Rattle.clip_graph.specs.Plan.{Application}
use Rattle.prefetch.specs.Rendered.{PutsNothing}
use Rattle.avs_eval.specs.declared.evaluation.Opened.{Opened}
use Rattle.avs_meaning.specs.State.{Numbers}
use Rattle.avs_meaning.specs.Faults.{input}
use Rattle.avs_meaning.specs.Meaning as m
use Rattle.serve_replay.specs.Verdicts.{longest, IsSaidOf}
use Rattle.serve_replay.specs.declared.reading.JournalStop.{JournalStop}
use Rattle.serve_replay.specs.declared.reading.JournalStop.TheVariants as of_journal
use Rattle.serve_text.specs.declared.stop.FileFault.{FileFault}
use Rattle.serve_text.specs.declared.stop.FileFault.TheVariants as of_file
use Rattle.serve_text.specs.declared.stop.Stop.{Stop}
use Rattle.serve_text.specs.declared.stop.Stop.TheVariants as of_stop
use Rattle.serve_app.specs.declared.replay.Charge.{Charge}
use Rattle.serve_app.specs.Meaning.{Meaning, a_clip, a_fault, meaning_in, status_of_fault}
use Rattle.serve_app.specs.Stop.{ScriptHasClip, HasFault, IsScriptFault}

-- ---- what is said

-- in this world the script means a clip of this plan, and the file of the name is no longer than a journal may be
pub record IsChargeOf (world : World) (script name : List ℕ) (plan : List Application) (root : ℕ) (text : List ℕ) : Type 0 where
  pub crew : Option Numbers
  pub means : meaning_in world script ≡ m.clip plan root crew
  pub text_is : get world name ≡ Some text
  pub few : length text ≤ longest

-- there are a clip and such a file
pub record HasText (world : World) (script name : List ℕ) : Type 0 where
  pub plan : List Application
  pub root : ℕ
  pub text : List ℕ
  pub of : IsChargeOf world script name plan root text

-- this line says whether the text of the file is a journal of the plan, with a cache of so many frames
pub record IsVerdictOf (world : World) (script name : List ℕ) (capacity : ℕ) (line : List ℕ) : Type 0 where
  pub has : HasText world script name
  pub says : IsSaidOf has.plan has.root capacity has.text line

-- a world is told, and this is the line in it
pub record IsToldVerdict (told : Option World) (script name : List ℕ) (capacity : ℕ) (line : List ℕ) : Type 0 where
  pub world : World
  pub told_is : told ≡ Some world
  pub is : IsVerdictOf world script name capacity line

-- ---- statuses

abbrev pub status_of_text : Option (List ℕ) → ℕ
status_of_text None = 3
status_of_text (Some text) = if nat_le (length text) longest then 0 else 3

abbrev pub status_by : Meaning → Option (List ℕ) → ℕ
status_by (a_clip clip) text = status_of_text text
status_by (a_fault fault) text = status_of_fault fault

-- the status of a replay, where nothing fails
abbrev pub replay_status : List ℕ → World → Meaning → ℕ
replay_status name world meaning = status_by meaning (get world name)

-- ---- how it ends

-- the stop of a replay whose journal could not be read
abbrev pub journal_stop : List ℕ → JournalStop → Stop
journal_stop name of_journal.TooLong = of_stop.File name of_file.JournalTooLong
journal_stop name of_journal.Read = of_stop.Read
journal_stop name of_journal.Memory = of_stop.Memory

-- what was opened, with the text that was read
abbrev pub charge_with : Opened → List ℕ → Result (Vec ℕ Global) JournalStop → Result Charge Stop
charge_with opened name (Ok text) = Ok (record { graph = opened.graph; root = opened.root; text = text })
charge_with opened name (Err why) = Err (journal_stop name why)

-- the script means a clip, and the file isn't there, or is too long
abbrev pub IsJournalFault : Option World → List ℕ → List ℕ → FileFault → Type 0
IsJournalFault told script name of_file.NotThere =
    ScriptHasClip told script × InWorld told (λ world. get world name ≡ None)
IsJournalFault told script name of_file.JournalTooLong =
    ScriptHasClip told script × InWorld told (λ world. ForSome (get world name) (λ text. longest < length text))
IsJournalFault told script name _ = ⊥

module _ (told : Option World) (script name : List ℕ) where
  -- what a stop before anything is put shows, where a read failed only if this holds
  abbrev pub ReadingShows : Type 0 → Stop → Type 0
  ReadingShows failed (of_stop.Script kind text line) = IsScriptFault told script kind text line
  ReadingShows failed (of_stop.Input file fault) = HasFault told script (input file fault)
  ReadingShows failed (of_stop.Changed file frame want got) = ⊥
  ReadingShows failed (of_stop.File file fault) = (file ≡ name) × IsJournalFault told script name fault
  ReadingShows failed of_stop.Read = failed
  ReadingShows failed of_stop.Write = ⊥
  ReadingShows failed of_stop.Memory = Unit {0}

  -- where a world is told, the plan is that of the script's clip, and the text that of the file
  pub record IsCharge (charge : Charge) : Type 0 where
    pub inside : charge.root < length charge.graph
    pub told_is : InWorld told (λ world. IsChargeOf world script name charge.graph charge.root charge.text.items)

  module _ (capacity : ℕ) {K : Type 0} (sink : Ghosts K) (old new : K) where
    -- the line that is said in this world was put
    pub record PutsVerdict (world : World) : Type 0 where
      pub line : List ℕ
      pub is : IsVerdictOf world script name capacity line
      pub put : Puts sink old new line

    module _ (failed : Type 0) where
      -- what a stop shows: nothing was put, or a prefix of the line
      abbrev pub ReplayShows : Stop → Type 0
      ReplayShows of_stop.Write = SinkFailed sink old new × ScriptHasClip told script
          × InWorld told (λ world. HasText world script name) × ((line : List ℕ) → IsToldVerdict told script name capacity line → PutsPrefix sink old new line)
      ReplayShows stop = ReadingShows failed stop × PutsNothing sink old new

      pub record IsScriptReplay (done : Result (Unit {0}) Stop) : Type 0 where
        pub whole : OnOk done (InWorld told PutsVerdict)
        pub clip : OnOk done (ScriptHasClip told script)
        pub stop : IfErr done ReplayShows
