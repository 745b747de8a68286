-- What a worker among others adds to the journal of a window, whole or cut short by a stop.
use Rattle.std.specs.Prelude.{◌≡◌, ◌⊎◌, ℕ, List, [], ◌∷◌, ◌++◌, Bool, true, false, Contains, Option, IfSome, Result, Ok, Err}
use Rattle.fv_plane.specs.Picture.{Picture}
use Rattle.fv_plane.specs.declared.key.Key.{Key}
use Rattle.clip_graph.specs.Plan.{Application, AreOfKeys}
use Rattle.inst_table.specs.declared.held.Held.{Ghosts}
use Rattle.turn_lock.specs.Entries.{entries_of}
use Rattle.serve_machine.specs.declared.event.Event.{Event}
use Rattle.serve_machine.specs.declared.event.Event.TheVariants.{Enter, Leave, Publish, Fail}
use Rattle.serve_machine.specs.declared.event.WindowStop.{WindowStop}
use Rattle.serve_machine.specs.Events.{worker_of, mode_at, instance_of}
use Rattle.serve_machine.specs.SerialRun.{eviction, leases}
use Rattle.serve_machine.specs.Work.{Production, Productions, CutWork, abandons, Delivered, DeliversAll}
use Rattle.serve_core.specs.CoreValue.{CoreValue}
use Rattle.serve_core.specs.Sources.{shape_at}
use Rattle.serve_core.specs.WorkerValue.{WorkerValue}
use Rattle.serve_shared.specs.Seats.{CoreSeat, seat_holdings, AtWork, IsSeat, Adds, RightFor}

module _ {I : Type 0} where
  -- work that a stop cut short is closed: after its own events so far come those that close it, and then its failure
  abbrev pub Fails : ℕ → WindowStop → List Event → List Event → CoreSeat I → Type 0
  Fails w why own closing later = later.own ≡ own ++ (closing ++ Fail w why ∷ [])

  -- or it saw the failure of another, and then closed its work
  pub record IsStopped (w : ℕ) (why : WindowStop) (own closing : List Event) (later : CoreSeat I) : Type 0 where
    pub seen : List Event
    pub own_seen : entries_of worker_of w seen ≡ own
    pub seen_is : later.seen ≡ seen ++ closing
    pub own_is : later.own ≡ own ++ closing
    pub other : ℕ
    pub differs : other ≡ w → ⊥
    pub fails : Contains seen (Fail other why)

  abbrev pub Closes : ℕ → WindowStop → List Event → List Event → CoreSeat I → Type 0
  Closes w why own closing later = Fails w why own closing later ⊎ IsStopped w why own closing later

  -- the worker stopped: it has closed all that it had open, the newest claim first
  pub record StopsNow (me : WorkerValue) (why : WindowStop) (leaves : List Event) (seat later : CoreSeat I)
      : Type 0 where
    pub seat_is : IsSeat seat later
    pub own_seen : entries_of worker_of me.number later.seen ≡ later.own
    pub closes : Closes me.number why seat.own (leaves ++ abandons me.number (seat_holdings me seat).claims) later

  -- work of this kind was cut short: what was done, and what closes it, and then what closes the work around it
  pub record StopsWithin (me : WorkerValue) (IsCut : List Event → List Event → Type 0) (why : WindowStop)
      (seat later : CoreSeat I) : Type 0 where
    pub done : List Event
    pub closing : List Event
    pub cut : IsCut done closing
    pub seat_is : IsSeat seat later
    pub own_seen : entries_of worker_of me.number later.seen ≡ later.own
    pub closes : Closes me.number why (seat.own ++ done)
        (closing ++ abandons me.number (seat_holdings me seat).claims) later

  module _ (of : Ghosts I) (me : WorkerValue) (seat : CoreSeat I) where
    -- a key was produced, and its frame is handed out
    pub record Produced (k : Key) (frame : Picture) (later : CoreSeat I) : Type 0 where
      pub events : List Event
      pub produced : Production me.plan me.number k events
      pub adds : Adds events seat later
      pub shape : frame.shape ≡ shape_at me.plan k.node
      pub right : RightFor of me.plan seat k frame

    -- the frames are right, each for its key
    abbrev pub AllRightFor : List Key → List Picture → Type 0
    AllRightFor [] [] = Unit {0}
    AllRightFor [] (x ∷ xs) = ⊥
    AllRightFor (k ∷ ks) [] = ⊥
    AllRightFor (k ∷ ks) (x ∷ xs) = RightFor of me.plan seat k x × AllRightFor ks xs

    -- keys were produced, one after the other
    pub record Gathered (ks : List Key) (frames : List Picture) (later : CoreSeat I) : Type 0 where
      pub events : List Event
      pub produced : Productions me.plan me.number ks events
      pub adds : Adds events seat later
      pub shapes : AreOfKeys me.plan ks frames
      pub right : AllRightFor ks frames

    -- a frame was made, with the worker's instance of the node if it has one
    pub record Made (k : Key) (frame : Picture) (later : CoreSeat I) : Type 0 where
      pub adds : Adds (leases me.plan me.number k.node) seat later
      pub shape : frame.shape ≡ shape_at me.plan k.node
      pub right : RightFor of me.plan seat k frame

    -- and it was published
    pub record Finished (k : Key) (frame : Picture) (later : CoreSeat I) : Type 0 where
      pub gone : Option Key
      pub adds :
          Adds (leases me.plan me.number k.node ++ (eviction me.number gone ++ Publish me.number k ∷ [])) seat later
      pub shape : frame.shape ≡ shape_at me.plan k.node
      pub right : RightFor of me.plan seat k frame

-- no frame of a node was made, or it was not published
pub data CutMake (plan : List Application) (w i : ℕ) : List Event → List Event → Type 0 where
  unmade : CutMake plan w i [] []
  entered : (mode_at plan i ≡ 1 → ⊥) → CutMake plan w i (Enter w i (instance_of plan w i) ∷ [])
      (Leave w i (instance_of plan w i) ∷ [])
  unpublished : CutMake plan w i (leases plan w i) []

-- by what it answered
abbrev pub Worked : {I : Type 0} → List Application → ℕ → CoreValue I → List Event → List Event
    → Result (Unit {0}) WindowStop → Type 0
Worked plan w s seen own (Ok u) = DeliversAll plan s.fixed.root s.fixed.count w seen own
Worked plan w s seen own (Err why) = CutWork plan s.fixed.root w why seen own

module _ {I : Type 0} (me : WorkerValue) (seat later : CoreSeat I) where
  -- the worker goes on to the next output
  pub record Continues : Type 0 where
    pub seat_is : IsSeat seat later
    pub work : AtWork me later
    pub delivered : IfSome later.tag (λ s. Delivered me.plan s.fixed.root me.number later.own)

  -- its work has ended
  pub record Ends (r : Result (Unit {0}) WindowStop) : Type 0 where
    pub seat_is : IsSeat seat later
    pub own_seen : entries_of worker_of me.number later.seen ≡ later.own
    pub worked : IfSome seat.tag (λ s. Worked me.plan me.number s later.seen later.own r)

  -- after the next output
  abbrev pub Delivers : Result Bool WindowStop → Type 0
  Delivers (Ok true) = Continues
  Delivers (Ok false) = Ends (Ok tt)
  Delivers (Err why) = Ends (Err why)
