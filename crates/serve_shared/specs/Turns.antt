-- What each turn of a worker adds, by what it found.
use Rattle.std.specs.Prelude.{◌≡◌, ℕ, ◌<◌, ◌≤◌, true, List, [], ◌∷◌, ◌++◌, length, Option, Some, None, IfSome, Result, Ok, Err}
use Rattle.fv_plane.specs.declared.key.Key.{Key}
use Rattle.fv_plane.specs.Picture.{Picture}
use Rattle.inst_table.specs.declared.held.Held.{Ghosts}
use Rattle.inst_table.specs.Lent.{Lent}
use Rattle.turn_lock.specs.Entries.{entries_of}
use Rattle.serve_machine.specs.declared.event.Event.{Event}
use Rattle.serve_machine.specs.declared.event.Event.TheVariants.{Hit as Hits, Claim, Enter, Leave, Publish, Take}
use Rattle.serve_machine.specs.declared.event.WindowStop.{WindowStop}
use Rattle.serve_machine.specs.declared.event.WindowStop.TheVariants.{Read}
use Rattle.serve_machine.specs.Events.{worker_of, IsKey, instance_of, has_entered}
use Rattle.serve_machine.specs.SerialRun.{eviction}
use Rattle.serve_machine.specs.Machine.{first_stop}
use Rattle.serve_core.specs.Sources.{shape_at, place_of, opened_at}
use Rattle.serve_core.specs.Stands.{Fits}
use Rattle.serve_core.specs.Turns.{HasCount, ForAllOf}
use Rattle.serve_machine.specs.Work.{takes}
use Rattle.serve_core.specs.WorkerValue.{WorkerValue}
use Rattle.serve_core.specs.Works.{MakeStops}
use Rattle.serve_shared.specs.declared.steps.Found.{Found}
use Rattle.serve_shared.specs.declared.steps.Found.TheVariants.{Hit, Claimed, Taken}
use Rattle.serve_shared.specs.declared.steps.Entry.{Entry}
use Rattle.serve_shared.specs.declared.steps.Entry.TheVariants.{Leased, Busy}
use Rattle.serve_shared.specs.Seats.{CoreSeat, Adds, RightFor}
use Rattle.serve_shared.specs.Shares.{StopsNow}

-- the worker's instance of a node is out: it keeps the node's source, fits what the window's first core stood for, and
-- has failed as often as it had then
pub record IsLent {I : Type 0} (of : Ghosts I) (me : WorkerValue) (seat : CoreSeat I) (i : ℕ) (l : Lent I)
    : Type 0 where
  pub place : l.place ≡ place_of me.plan me.number i
  pub source : of.holds l.value ≡ opened_at me.plan i
  pub fits : IfSome seat.tag (λ s. ForAllOf of.feed of.faults s (λ book numbers.
      Fits of.feed of.faults book numbers me.plan l.place l.value))
  pub count : IfSome seat.tag (λ s. HasCount of.faults s.table l.place l.value)

-- it made no frame, and this is why
pub record HasStopped {I : Type 0} (of : Ghosts I) (me : WorkerValue) (seat : CoreSeat I) (l : Lent I)
    (why : WindowStop) : Type 0 where
  pub node : ℕ
  pub in_plan : node < length me.plan
  pub entered : has_entered me.number node seat.own ≡ true
  -- as it was before
  pub old : I
  pub lent : IsLent of me seat node (record { place = l.place; value = old })
  pub source : of.holds l.value ≡ of.holds old
  pub feed_same : of.feed l.value ≡ of.feed old
  pub faults_more : of.faults old ≤ of.faults l.value
  -- a read that failed is reported as that
  pub steady : (why ≡ Read node → ⊥) → of.faults l.value ≡ of.faults old
  pub stops : MakeStops of.feed of.faults of.ends me.plan node old l.value why

module _ {I : Type 0} (of : Ghosts I) (me : WorkerValue) (seat : CoreSeat I) where
  -- a frame was cached
  pub record HasHit (k : Key) (frame : Picture) (later : CoreSeat I) : Type 0 where
    pub adds : Adds (Hits me.number k ∷ []) seat later
    pub shape : frame.shape ≡ shape_at me.plan k.node
    pub right : RightFor of me.plan seat k frame

  abbrev pub TurnAsks : Key → Result Found WindowStop → CoreSeat I → Type 0
  TurnAsks k (Ok (Hit x)) later = HasHit k x later
  TurnAsks k (Ok Claimed) later = Adds (Claim me.number k ∷ []) seat later
  TurnAsks k (Ok (Taken heard)) later = Adds [] seat later
  TurnAsks k (Err why) later = StopsNow me why [] seat later

  -- once no other worker has the claim on the frame
  abbrev pub Asks : Key → Result (Option Picture) WindowStop → CoreSeat I → Type 0
  Asks k (Ok (Some x)) later = HasHit k x later
  Asks k (Ok None) later = Adds (Claim me.number k ∷ []) seat later
  Asks k (Err why) later = StopsNow me why [] seat later

  -- an instance was lent
  pub record HasEntered (i : ℕ) (l : Lent I) (later : CoreSeat I) : Type 0 where
    pub adds : Adds (Enter me.number i (instance_of me.plan me.number i) ∷ []) seat later
    pub lent : IsLent of me seat i l

  abbrev pub TurnEnters : ℕ → Result (Entry I) WindowStop → CoreSeat I → Type 0
  TurnEnters i (Ok (Leased l)) later = HasEntered i l later
  TurnEnters i (Ok (Busy heard)) later = Adds [] seat later
  TurnEnters i (Err why) later = StopsNow me why [] seat later

  -- once no other worker has it
  abbrev pub Gets : ℕ → Result (Lent I) WindowStop → CoreSeat I → Type 0
  Gets i (Ok l) later = HasEntered i l later
  Gets i (Err why) later = StopsNow me why [] seat later

  -- an instance was given back, and the frame was made, or not
  abbrev pub gives_back : Key → List Event
  gives_back k = Leave me.number k.node (instance_of me.plan me.number k.node) ∷ []

  pub record HasMade (k : Key) (frame : Picture) (later : CoreSeat I) : Type 0 where
    pub adds : Adds (gives_back k) seat later
    pub shape : frame.shape ≡ shape_at me.plan k.node
    pub right : RightFor of me.plan seat k frame

  abbrev pub Lends : Key → Result Picture WindowStop → CoreSeat I → Type 0
  Lends k (Ok x) later = HasMade k x later
  Lends k (Err why) later = StopsNow me why (gives_back k) seat later

module _ {I : Type 0} (me : WorkerValue) (seat : CoreSeat I) where
  -- a frame was published, and another perhaps dropped
  pub record HasPublished (k : Key) (later : CoreSeat I) : Type 0 where
    pub gone : Option Key
    pub adds : Adds (eviction me.number gone ++ Publish me.number k ∷ []) seat later

  abbrev pub TurnPublishes : Key → Result (Unit {0}) WindowStop → CoreSeat I → Type 0
  TurnPublishes k (Ok u) later = HasPublished k later
  TurnPublishes k (Err why) later = StopsNow me why [] seat later

  -- an output was taken
  pub record HasTaken (k : Key) (later : CoreSeat I) : Type 0 where
    pub adds : Adds (Take me.number k.n ∷ []) seat later
    pub key : IsKey me.plan k
    pub root : IfSome seat.tag (λ s. k.node ≡ s.fixed.root)

  -- none is left, unless a stop is kept
  pub record SeesAll (later : CoreSeat I) : Type 0 where
    pub adds : Adds [] seat later
    pub own_seen : entries_of worker_of me.number later.seen ≡ later.own
    pub all : IfSome seat.tag (λ s. first_stop later.seen ≡ None → s.fixed.count ≤ takes later.seen)

  abbrev pub TurnTakes : Result (Option Key) WindowStop → CoreSeat I → Type 0
  TurnTakes (Ok None) later = SeesAll later
  TurnTakes (Ok (Some k)) later = HasTaken k later
  TurnTakes (Err why) later = StopsNow me why [] seat later
