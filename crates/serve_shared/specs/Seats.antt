-- What the seat of a worker shows: the window that it works in, and what its own events say.
use Rattle.std.specs.Prelude.{◌≡◌, ℕ, ◌+◌, ◌<◌, ◌≤◌, List, [], ◌++◌, length, Some, None, IfSome}
use Rattle.std.specs.List.{AllByRecursion}
use Rattle.fv_plane.specs.Picture.{Picture}
use Rattle.fv_plane.specs.declared.key.Key.{Key}
use Rattle.clip_graph.specs.Plan.{Application, application_at, IsPlan}
use Rattle.inst_table.specs.declared.held.Held.{Ghosts}
use Rattle.turn_lock.specs.Entries.{IsPrefix}
use Rattle.turn_lock.specs.SeatView.{SeatView}
use Rattle.serve_machine.specs.declared.event.Event.{Event}
use Rattle.serve_machine.specs.Holdings.{Holdings, own_holdings}
use Rattle.serve_machine.specs.Machine.{first_stop}
use Rattle.serve_core.specs.CoreValue.{CoreValue}
use Rattle.serve_core.specs.Stands.{IsRight}
use Rattle.serve_core.specs.Turns.{ForAllOf}
use Rattle.serve_core.specs.WorkerValue.{WorkerValue}

-- all these keys are of nodes from a number on
abbrev pub AllFrom : ℕ → List Key → Type 0
AllFrom i keys = AllByRecursion (λ k. i ≤ k.node) keys

-- a seat at a lock over a core
abbrev pub CoreSeat : Type 0 → Type 0
CoreSeat I = SeatView Event (CoreValue I)

module _ {I : Type 0} where
  -- the window that began with the core s is one of this plan, and has this worker
  pub record HasWorker (plan : List Application) (w : ℕ) (s : CoreValue I) : Type 0 where
    pub plan_is : s.fixed.plan ≡ plan
    pub worker : w < s.fixed.workers
    pub window : 0 < s.fixed.count
    pub root : s.fixed.root < length plan
    pub numbers : s.fixed.first + s.fixed.count ≤ (application_at plan s.fixed.root).info.frames

  -- what the worker has, by its own events
  abbrev pub seat_holdings : WorkerValue → CoreSeat I → Holdings
  seat_holdings me seat = own_holdings me.plan seat.own

  -- the seat of a worker in a window, which began with the core `start`; the worker has not failed
  pub record HasSeat (me : WorkerValue) (seat : CoreSeat I) : Type 0 where
    pub is_plan : IsPlan me.plan
    pub start : CoreValue I
    pub tag : seat.tag ≡ Some start
    pub number : seat.number ≡ me.number
    pub window : HasWorker me.plan me.number start
    pub running : first_stop seat.own ≡ None

  -- a worker between two of its turns, with no instance
  pub record AtWork (me : WorkerValue) (seat : CoreSeat I) : Type 0 where
    pub sits : HasSeat me seat
    pub unlent : (seat_holdings me seat).leases ≡ []

  -- the same seat later, which has seen more
  pub record IsSeat (seat later : CoreSeat I) : Type 0 where
    pub same : later ≡ record seat { seen = later.seen; own = later.own }
    pub seen : IsPrefix seat.seen later.seen

  -- and it added these events
  pub record Adds (events : List Event) (seat later : CoreSeat I) : Type 0 where
    pub seat_is : IsSeat seat later
    pub own : later.own ≡ seat.own ++ events

  -- a frame that is right, for whatever the window's first core stood
  abbrev pub RightFor : Ghosts I → List Application → CoreSeat I → Key → Picture → Type 0
  RightFor of plan seat k frame =
      IfSome seat.tag (λ s. ForAllOf of.feed of.faults s (λ book numbers. IsRight book plan k frame))
