-- The journal of a script's render.
use Rattle.std.specs.Prelude.{◌≡◌, ℕ, ◌<◌, ◌≤◌, List, length, Option, Some, None}
use Rattle.fv_io.specs.declared.sink.Sink.{Ghosts}
use Rattle.fv_io.specs.World.{World, InWorld}
use Rattle.clip_graph.specs.Plan.{Application, IsPlan}
use Rattle.serve_machine.specs.declared.event.WindowStop.{WindowStop}
use Rattle.serve_machine.specs.declared.windows.Record.{Record}
use Rattle.serve_machine.specs.Events.{windows_of}
use Rattle.serve_text.specs.Report.{report}
use Rattle.run_text.specs.Lines.{journal_text}
use Rattle.run_text.specs.Journal.{IsJournal}
use Rattle.prefetch.specs.declared.pool_size.Pool.{Pool}
use Rattle.prefetch.specs.declared.pool_size.PoolSize.{PoolSize}
use Rattle.prefetch.specs.Windows.{pool}
use Rattle.prefetch.specs.Journals.{IsRendered, IsCutShort}
use Rattle.avs_meaning.specs.State.{Numbers}
use Rattle.avs_meaning.specs.Meaning as m
use Rattle.serve_app.specs.Meaning.{meaning_in}
use Rattle.serve_app.specs.Stop.{IsOfScript}

-- the capacity of the cache, where it was given or not
abbrev pub cache_of : Option ℕ → ℕ
cache_of (Some capacity) = capacity
cache_of None = 64

-- a plan, and where a world is told the one that the script means, with the place of its clip
pub record IsPlanOf (told : Option World) (script : List ℕ) (plan : List Application) (root : ℕ) : Type 0 where
  pub is_plan : IsPlan plan
  pub inside : root < length plan
  pub crew : Option Numbers
  pub means : InWorld told (λ world. meaning_in world script ≡ m.clip plan root crew)

-- 1 to 16 workers, and windows of 1 to 32 outputs
pub record IsPool (by : Pool) : Type 0 where
  pub some : 0 < by.workers
  pub few : by.workers ≤ 16
  pub some_outputs : 0 < by.window
  pub few_outputs : by.window ≤ 32

module _ (told : Option World) (script : List ℕ) (capacity : ℕ) (pool_size : PoolSize) where
  -- the journal is that of a whole render of the script's plan, by the workers that it has
  pub record IsScriptRendered (journal : Option Record) : Type 0 where
    pub plan : List Application
    pub root : ℕ
    pub is_plan : IsPlanOf told script plan root
    pub is_pool : IsPool (pool pool_size is_plan.crew)
    pub rendered : IsRendered plan root capacity (pool pool_size is_plan.crew) journal

  -- the number of the workers of a render
  abbrev pub workers_of : {journal : Option Record} → IsScriptRendered journal → ℕ
  workers_of run = (pool pool_size run.is_plan.crew).workers

  -- it is that of this plan, by so many workers
  pub record IsRunOf (journal : Option Record) (plan : List Application) (workers : ℕ) : Type 0 where
    pub run : IsScriptRendered journal
    pub plan_is : run.plan ≡ plan
    pub workers_are : workers_of run ≡ workers

  -- the report of the journal by the script's plan
  pub record IsReport (journal : Option Record) (text : List ℕ) : Type 0 where
    pub run : IsScriptRendered journal
    pub text_is : text ≡ report run.plan (windows_of run.rendered.log)

  -- the text of the journal, by the workers that rendered
  pub record IsJournalText (journal : Option Record) (text : List ℕ) : Type 0 where
    pub run : IsScriptRendered journal
    pub text_is : text ≡ journal_text (workers_of run) (windows_of run.rendered.log)

  -- which is a journal of the script's plan, as a checker of journals says
  abbrev pub IsLawful : {journal : Option Record} {text : List ℕ} → IsJournalText journal text → Type 0
  IsLawful {text = text} is = IsJournal is.run.plan is.run.root capacity text

  -- an ending is of this kind, by the plan and by the stop that cut the last window of the journal short, where one did
  module _ {K : Type 0} (sink : Ghosts K) (old new : K) (IsEnd : List Application → Option WindowStop → Type 0) where
    -- the journal is the beginning of it
    pub record IsScriptCut (log : Record) : Type 0 where
      pub plan : List Application
      pub root : ℕ
      pub is_plan : IsPlanOf told script plan root
      pub stop : Option WindowStop
      pub ends : IsEnd plan stop
      pub cut : IsCutShort plan root capacity (pool pool_size is_plan.crew) sink old new (IsOfScript told script) stop log

    abbrev pub ScriptCuts : Option Record → Type 0
    ScriptCuts None = Unit {0}
    ScriptCuts (Some log) = IsScriptCut log
