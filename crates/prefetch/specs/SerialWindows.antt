-- Windows by one worker: their events are those of the serial run, which are a run of the machine too.
use Rattle.std.specs.Prelude.{◌≡◌, ℕ, ◌≤◌, true, List}
use Rattle.std.specs.Map.{keys_of}
use Rattle.serve_machine.specs.declared.event.Event.{Event}
use Rattle.serve_machine.specs.declared.event.WindowStop.{WindowStop}
use Rattle.serve_machine.specs.Events.{names_source, WindowEvents}
use Rattle.serve_machine.specs.SerialRun.{Serial, serial_window, windows_after}
use Rattle.serve_machine.specs.Work.{FailedWork}
use Rattle.serve_core.specs.CoreValue.{CoreValue}
use Rattle.prefetch.specs.Crew.{IsCrewWindow, IsCutCrew}
use Rattle.prefetch.specs.Windows.{frames_at, PutsWindow, WindowShows}
use Rattle.fv_io.specs.declared.sink.Sink.{Ghosts}
use Rattle.inst_table.specs.declared.held.Held.{Ghosts as HeldGhosts}
use Rattle.prefetch.specs.declared.stops.RenderStop.{RenderStop}

module _ {I : Type 0} (c : CoreValue I) where
  -- what the serial run leaves of one window
  abbrev pub window_of : ℕ → ℕ → Serial
  window_of first count = serial_window c.fixed.plan c.fixed.root c.fixed.capacity (keys_of c.cache) first count

  pub record IsSerialWindow (first count : ℕ) (events : List Event) (d : CoreValue I) : Type 0 where
    pub events_are : events ≡ (window_of first count).events
    pub keys_are : keys_of d.cache ≡ (window_of first count).keys

  -- the window is the serial run's, and a run of the machine in which each worker does whole work
  pub record IsAloneWindow (first count : ℕ) (events : List Event) (d : CoreValue I) : Type 0 where
    pub serial : IsSerialWindow first count events d
    pub crew : IsCrewWindow c first count events d

  pub record IsCutSerial (why : WindowStop) (events : List Event) : Type 0 where
    pub cut : FailedWork c.fixed.plan c.fixed.root 0 why events
    pub named : names_source c.fixed.plan why ≡ true

  -- and they are a run of the machine too
  pub record IsAloneCut (first count : ℕ) (why : WindowStop) (events : List Event) : Type 0 where
    pub serial : IsCutSerial why events
    pub crew : IsCutCrew c first count why events

  -- the windows are the first of the serial run, have the first n outputs, and left what is cached in d
  pub record AreSerial (size n : ℕ) (windows : List WindowEvents) (d : CoreValue I) : Type 0 where
    pub most : ℕ
    pub few : most ≤ n
    pub run : windows_after most c.fixed.plan c.fixed.root c.fixed.capacity size (frames_at c.fixed.plan c.fixed.root)
        (keys_of c.cache) ≡ record { windows = windows; keys = keys_of d.cache; next = n }

-- ---- A window by one worker, whose frames are put.

module _ {I K : Type 0} (of : HeldGhosts I) (c : CoreValue I) (first count : ℕ) (log longer : List WindowEvents)
    (d : CoreValue I) (sink : Ghosts K) (old new : K) where
  -- the window is whole, and its frames were put
  abbrev pub PutsAlone : Type 0
  PutsAlone = PutsWindow of c (IsAloneWindow c first count) (IsAloneCut c first count)
      first count log longer d sink old new

  -- it was cut short, its frames were not put whole, or it could not begin
  abbrev pub AloneShows : RenderStop → Type 0
  AloneShows = WindowShows of c (IsAloneWindow c first count) (IsAloneCut c first count)
      first count log longer d sink old new
