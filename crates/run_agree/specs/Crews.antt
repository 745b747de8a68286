-- Whole windows of a crew are those of a journal.
use Rattle.std.specs.Prelude.{ℕ, ◌<◌, ◌≤◌, List, length}
use Rattle.std.specs.List.{AllByRecursion}
use Rattle.clip_graph.specs.Plan.{Application, application_at, IsPlan}
use Rattle.inst_table.specs.declared.place.Place.{Place}
use Rattle.serve_machine.specs.Events.{WindowEvents}
use Rattle.serve_machine.specs.Journals.{KeyCache, AreWhole}
use Rattle.run_text.specs.Lines.{LineFits, journal_lines, journal_text}
use Rattle.run_text.specs.Journal.{AreFinished, IsJournal}

-- windows of up to 32 frames of a root of the plan
pub record IsCrew (plan : List Application) (root size : ℕ) : Type 0 where
  pub plan_is : IsPlan plan
  pub root_in : root < length plan
  pub some : 0 < size
  pub few : size ≤ 32

-- whole windows are finished ones, whichever instances there were
abbrev pub CrewsFinish : Type 0
CrewsFinish = (plan : List Application) (root capacity workers size n : ℕ) (some : List Place)
    (windows : List WindowEvents) (left : KeyCache) → IsCrew plan root size
    → AreWhole plan root capacity workers some size (application_at plan root).info.frames windows n left
    → AreFinished plan root capacity workers windows left

-- and their text is a journal, where there are 1 to 16 workers and each number fits
abbrev pub CrewsAreLawful : Type 0
CrewsAreLawful = (plan : List Application) (root capacity workers size n : ℕ) (some : List Place)
    (windows : List WindowEvents) (left : KeyCache) → IsCrew plan root size → 0 < workers → workers ≤ 16
    → AllByRecursion LineFits (journal_lines workers windows)
    → AreWhole plan root capacity workers some size (application_at plan root).info.frames windows n left
    → IsJournal plan root capacity (journal_text workers windows)
