-- Windows of whole work are finished.
use Rattle.std.specs.Prelude.{◌≡◌, ℕ, ◌<◌, ◌≤◌, true, List, length, slice_get, Some, None}
use Rattle.std.specs.List.{AllByRecursion}
use Rattle.clip_graph.specs.Plan.{Application, IsPlan}
use Rattle.inst_table.specs.declared.place.Place.{Place}
use Rattle.serve_machine.specs.declared.event.Event.{Event}
use Rattle.serve_machine.specs.Events.{own_events, WindowEvents}
use Rattle.serve_machine.specs.Work.{Deliveries}
use Rattle.serve_machine.specs.Law.{start_of}
use Rattle.serve_machine.specs.Machine.{Machine, replay, State}
use Rattle.serve_machine.specs.Journals.{after_window}
use Rattle.run_text.specs.Lines.{LineFits, journal_lines, journal_text}
use Rattle.run_text.specs.Journal.{KeyCache, places, machine_of, is_finished, AreFinished, IsJournal}

-- a worker's own events are whole work on some outputs
abbrev pub IsWholeWork : List Application → ℕ → ℕ → List Event → Type 0
IsWholeWork plan root w events = (outputs : List ℕ) × Deliveries plan root w outputs (own_events w events)

-- a run without a stop, of workers whose work is whole and with each output delivered, is finished
abbrev pub WorkFinishes : Type 0
WorkFinishes = (m : Machine (Unit {0})) (cache : KeyCache) (places : List Place) (events : List Event)
    (s : State (Unit {0})) → IsPlan m.fixed.plan → m.fixed.root < length m.fixed.plan
    → replay m (start_of m cache places) events ≡ Some s → s.stop ≡ None
    → ((j : ℕ) → j < m.fixed.count → slice_get s.frames j ≡ Some (Some tt))
    → ((w : ℕ) → w < m.fixed.workers → IsWholeWork m.fixed.plan m.fixed.root w events) → is_finished s ≡ true

module _ (plan : List Application) (root capacity workers : ℕ) where
  -- a window that begins with this cache is a run to this state, with these instances
  abbrev pub RunsWith : List Place → KeyCache → WindowEvents → State (Unit {0}) → Type 0
  RunsWith some cache window s = after_window (machine_of plan root capacity workers) some cache window ≡ Some s

  -- and a run with all that the modes ask for, to one with the same frames
  pub record IsServed (cache : KeyCache) (window : WindowEvents) (s : State (Unit {0})) : Type 0 where
    pub state : State (Unit {0})
    pub runs : RunsWith (places plan root capacity workers) cache window state
    pub cache_is : state.cache ≡ s.cache
    pub frames_are : state.frames ≡ s.frames
    pub stop_is : state.stop ≡ s.stop

  -- a window of whole work: a run with some instances, in which each output is delivered
  pub record IsWhole (some : List Place) (cache : KeyCache) (window : WindowEvents) (s : State (Unit {0})) : Type 0 where
    pub runs : RunsWith some cache window s
    pub running : s.stop ≡ None
    pub delivered : (j : ℕ) → j < window.count → slice_get s.frames j ≡ Some (Some tt)
    pub work : (w : ℕ) → w < workers → IsWholeWork plan root w window.events

  -- a finished window, with all instances, that leaves this cache
  pub record Closes (cache : KeyCache) (window : WindowEvents) (left : KeyCache) : Type 0 where
    pub state : State (Unit {0})
    pub runs : RunsWith (places plan root capacity workers) cache window state
    pub cache_is : state.cache ≡ left
    pub finished : is_finished state ≡ true

-- a run of a window with some instances is one with all that the modes ask for
abbrev pub PlacesServe : Type 0
PlacesServe = (plan : List Application) (root capacity workers : ℕ) (some : List Place) (cache : KeyCache)
    (window : WindowEvents) (s : State (Unit {0})) → IsPlan plan
    → RunsWith plan root capacity workers some cache window s → IsServed plan root capacity workers cache window s

abbrev pub WholeCloses : Type 0
WholeCloses = (plan : List Application) (root capacity workers : ℕ) (some : List Place) (cache : KeyCache)
    (window : WindowEvents) (s : State (Unit {0})) → IsPlan plan → root < length plan
    → IsWhole plan root capacity workers some cache window s → Closes plan root capacity workers cache window s.cache

-- finished windows of 1 to 16 workers, whose numbers fit their lines, have a lawful text
abbrev pub FinishedIsLawful : Type 0
FinishedIsLawful = (plan : List Application) (root capacity workers : ℕ) (windows : List WindowEvents) (left : KeyCache)
    → 0 < workers → workers ≤ 16 → AllByRecursion LineFits (journal_lines workers windows)
    → AreFinished plan root capacity workers windows left → IsJournal plan root capacity (journal_text workers windows)
