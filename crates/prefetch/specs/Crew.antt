-- Windows by several workers: their seats at the lock, and the runs that they leave.
use Rattle.std.specs.Prelude.{◌≡◌, ℕ, ◌+◌, ◌<◌, ◌≤◌, false, List, [], Contains, slice_get, Some, IfSome, ◌⊎◌, Option}
use Rattle.std.specs.Map.{keys_of}
use Rattle.clip_graph.specs.Plan.{Application}
use Rattle.inst_table.specs.declared.held.Held.{Ghosts as HeldGhosts}
use Rattle.turn_lock.specs.declared.view.Ended.{Ended}
use Rattle.turn_lock.specs.SeatView.{TableId}
use Rattle.serve_machine.specs.declared.event.Event.{Event}
use Rattle.serve_machine.specs.declared.event.WindowStop.{WindowStop}
use Rattle.serve_machine.specs.Events.{own_events, WindowEvents}
use Rattle.serve_machine.specs.Machine.{State}
use Rattle.serve_core.specs.CoreValue.{CoreValue}
use Rattle.serve_core.specs.Runs.{keys_alone}
use Rattle.serve_core.specs.Turns.{IsSteady, StandsFor}
use Rattle.serve_shared.specs.Seats.{CoreSeat, HasWorker, IsSeat}
use Rattle.serve_machine.specs.Work.{IsWork}
use Rattle.serve_machine.specs.Journals.{IsWholeWindow, IsCutWindow, AreWhole}
use Rattle.prefetch.specs.Windows.{frames_at, WindowStopped, AddsWindow, CutsWindow, given, pictures_text, PutsPictures}
use Rattle.fv_io.specs.declared.sink.Sink.{Ghosts}
use Rattle.fv_io.specs.Sink.{Puts, PutsPrefix, SinkFailed}
use Rattle.fv_plane.specs.Picture.{Picture}
use Rattle.serve_core.specs.declared.answers.Finished.{Finished}
use Rattle.prefetch.specs.declared.stops.RenderStop.{RenderStop}
use Rattle.prefetch.specs.declared.stops.RenderStop.TheVariants.{Stopped, Write, Memory}

-- the seat of this number was joined: its events are work, by all that it had seen
pub record HasWorked (plan : List Application) (root count w : ℕ) (ended : List (Ended Event)) : Type 0 where
  pub one : Ended Event
  pub there : Contains ended one
  pub number : one.number ≡ w
  pub work : IsWork plan root count w one.seen one.entries

module _ {I : Type 0} (plan : List Application) where
  -- a worker may work at the seat
  pub record MayWork (lock : TableId) (seat : CoreSeat I) : Type 0 where
    pub lock_is : seat.lock ≡ lock
    pub window : IfSome seat.tag (HasWorker plan seat.number)
    pub fresh : seat.own ≡ []

  -- it did, and its events are work by all that it saw
  pub record WorkedAt (seat later : CoreSeat I) : Type 0 where
    pub seat_is : IsSeat seat later
    pub work : IfSome seat.tag (λ s. IsWork plan s.fixed.root s.fixed.count seat.number later.seen later.own)

  -- the window that began with the core s is one of this plan, and has workers of the numbers below this one
  abbrev pub HasWorkers : ℕ → CoreValue I → Type 0
  HasWorkers most s = (w : ℕ) → w < most → HasWorker plan w s

  -- a worker may work at the seat, and so many others at seats that it gives out
  pub record MayGather (lock : TableId) (others : ℕ) (seat : CoreSeat I) : Type 0 where
    pub lock_is : seat.lock ≡ lock
    pub window : IfSome seat.tag (HasWorkers (seat.next + others))
    pub number : seat.number < seat.next
    pub room : seat.next + others < seat.limit
    pub fresh : seat.own ≡ []

  pub record AllWorked (root count : ℕ) (seat later : CoreSeat I) : Type 0 where
    pub first : HasWorked plan root count seat.number later.ended
    pub rest : (w : ℕ) → seat.next ≤ w → w < later.number → HasWorked plan root count w later.ended

  -- they did, and their seats were joined into one that has no events
  pub record IsGathered (others : ℕ) (seat later : CoreSeat I) : Type 0 where
    pub lock : later.lock ≡ seat.lock
    pub tag : later.tag ≡ seat.tag
    pub number : later.number ≡ seat.next + others
    pub next : later.next ≡ later.number + 1
    pub limit : later.limit ≡ seat.limit
    pub own : later.own ≡ []
    pub work : IfSome seat.tag (λ s. AllWorked s.fixed.root s.fixed.count seat later)

module _ {I : Type 0} where
  -- a window that has begun, and has no event yet
  pub record IsNew (s : CoreValue I) : Type 0 where
    pub empty : s.journal ≡ []
    pub unfailed : slice_get s.failed 0 ≡ Some false
    pub workers : HasWorkers s.fixed.plan s.fixed.workers s

  -- the window that began with the core s came to its end: the events of each worker are work
  pub record WorkIsDone (of : HeldGhosts I) (s c : CoreValue I) : Type 0 where
    pub stands : StandsFor of.feed of.faults of.ends c s
    pub steady : IsSteady of.faults c s
    pub work : (w : ℕ) → w < s.fixed.workers
        → IsWork s.fixed.plan s.fixed.root s.fixed.count w c.journal (own_events w c.journal)

  module _ (c : CoreValue I) where
    -- the window is a run from what was cached in c, and left what is cached in d
    pub record IsCrewWindow (first count : ℕ) (events : List Event) (d : CoreValue I) : Type 0 where
      pub state : State (Unit {0})
      pub whole : IsWholeWindow c.fixed.plan c.fixed.root c.fixed.capacity c.fixed.workers (keys_of c.table)
          (keys_alone (keys_of c.cache)) (record { first = first; count = count; events = events }) state
      pub left : state.cache ≡ keys_alone (keys_of d.cache)
      pub places : keys_of d.table ≡ keys_of c.table

    abbrev pub IsCutCrew : ℕ → ℕ → WindowStop → List Event → Type 0
    IsCutCrew first count why events =
        IsCutWindow c.fixed.plan c.fixed.root c.fixed.capacity c.fixed.workers (keys_of c.table) why
        (keys_alone (keys_of c.cache)) (record { first = first; count = count; events = events })

    -- the windows are whole, have the first n outputs, and left what is cached in d
    pub record AreOfCrew (size n : ℕ) (windows : List WindowEvents) (d : CoreValue I) : Type 0 where
      pub whole : AreWhole c.fixed.plan c.fixed.root c.fixed.capacity c.fixed.workers (keys_of c.table) size
          (frames_at c.fixed.plan c.fixed.root) windows n (keys_alone (keys_of d.cache))
      pub places : keys_of d.table ≡ keys_of c.table

-- ---- A window by several workers, while the frames of the window before it are put.

module _ {I : Type 0} (of : HeldGhosts I) (c : CoreValue I) (first count : ℕ) (log longer : List WindowEvents)
    (d : CoreValue I) where
  -- the window is whole, and stands in the journal
  abbrev pub AddsCrewWindow : Finished → Type 0
  AddsCrewWindow = AddsWindow of c (IsCrewWindow c first count) (IsCutCrew c first count)
      first count log longer d

  -- it was cut short, and stands in the journal
  abbrev pub CutsCrewWindow : WindowStop → Type 0
  CutsCrewWindow = CutsWindow of c (IsCrewWindow c first count) (IsCutCrew c first count)
      first count log longer d

  -- it could not begin, or was cut short, and is left out of the journal
  abbrev pub LeavesOut : Type 0
  LeavesOut = (longer ≡ log) × ((d ≡ c) ⊎ ((why : WindowStop) × WindowStopped of c why d))

  module _ {K : Type 0} (sink : Ghosts K) (before : List (Option Picture)) (old new : K) where
    -- the frames before were put, and the window is whole: these are its frames
    pub record MakesNext (frames : List (Option Picture)) : Type 0 where
      pub finished : Finished
      pub adds : AddsCrewWindow finished
      pub frames_are : frames ≡ finished.frames.items
      pub put : PutsPictures sink old new (given before)

    -- they were not put whole, since the sink failed
    pub record FailsBefore : Type 0 where
      pub failed : SinkFailed sink old new
      pub cut : PutsPrefix sink old new (pictures_text (given before))
      pub window : ((finished : Finished) × AddsCrewWindow finished) ⊎ LeavesOut

    -- they were put, and the window was cut short, or could not begin
    abbrev pub NextShows : RenderStop → Type 0
    NextShows (Stopped why) = CutsCrewWindow why × PutsPictures sink old new (given before)
    NextShows Write = FailsBefore
    NextShows Memory = (longer ≡ log) × (d ≡ c) × PutsPictures sink old new (given before)
