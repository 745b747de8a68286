-- The work of a worker: the events that it may make, whole or cut short by a stop, and what it leaves open.
use Rattle.std.specs.Prelude.{◌≡◌, ◌⊎◌, ℕ, ◌<◌, List, [], ◌∷◌, ◌++◌, Option, length, Contains, ◌≤◌, true, None, ◌+◌}
use Rattle.std.specs.List.{range_with_len, AllByRecursion}
use Rattle.fv_plane.specs.declared.key.Key.{Key}
use Rattle.clip_graph.specs.Plan.{Application, IsPlan, input_keys}
use Rattle.serve_machine.specs.declared.event.Event.{Event}
use Rattle.serve_machine.specs.declared.event.Event.TheVariants.{Hit, Claim, Enter, Leave, Publish, Abandon, Take, Deliver, Fail}
use Rattle.serve_machine.specs.declared.event.WindowStop.{WindowStop}
use Rattle.serve_machine.specs.Events.{frame_key, mode_at, instance_of, own_events, has_got, has_got_all}
use Rattle.serve_machine.specs.SerialRun.{eviction, leases, serial_production, serial_window}
use Rattle.serve_machine.specs.Holdings.{Holdings, holdings_after, own_holdings}
use Rattle.serve_machine.specs.Machine.{first_stop}

-- a key is produced: a hit, or a claim, the productions of its inputs, its instance and its publication
mutual
  pub data Production (plan : List Application) (w : ℕ) : Key → List Event → Type 0 where
    hit : {k : Key} → Production plan w k (Hit w k ∷ [])
    made : {k : Key} {es : List Event} (gone : Option Key) → Productions plan w (input_keys plan k) es
        → Production plan w k (Claim w k ∷ (es ++ (leases plan w k.node ++ (eviction w gone ++ Publish w k ∷ []))))

  pub data Productions (plan : List Application) (w : ℕ) : List Key → List Event → Type 0 where
    done : Productions plan w [] []
    more : {k : Key} {ks : List Key} {es fs : List Event} → Production plan w k es → Productions plan w ks fs
        → Productions plan w (k ∷ ks) (es ++ fs)

-- A production that a stop cut short is two lists: what was done, and what closes it. An instance that is out is given
-- back first, and then each open claim is abandoned, the innermost first.
mutual
  pub data CutShort (plan : List Application) (w : ℕ) : Key → List Event → List Event → Type 0 where
    refused : {k : Key} → CutShort plan w k [] []
    inside : {k : Key} {es closing : List Event} → CutInputs plan w (input_keys plan k) es closing
        → CutShort plan w k (Claim w k ∷ es) (closing ++ Abandon w k ∷ [])
    entered : {k : Key} {es : List Event} → (mode_at plan k.node ≡ 1 → ⊥) → Productions plan w (input_keys plan k) es
        → CutShort plan w k (Claim w k ∷ (es ++ Enter w k.node (instance_of plan w k.node) ∷ []))
        (Leave w k.node (instance_of plan w k.node) ∷ Abandon w k ∷ [])
    unpublished : {k : Key} {es : List Event} → Productions plan w (input_keys plan k) es
        → CutShort plan w k (Claim w k ∷ (es ++ leases plan w k.node)) (Abandon w k ∷ [])

  -- some of these keys were produced, and perhaps the next was cut short
  pub data CutInputs (plan : List Application) (w : ℕ) : List Key → List Event → List Event → Type 0 where
    between : {ks all : List Key} {es : List Event} (js : List Key) → all ≡ ks ++ js → Productions plan w ks es
        → CutInputs plan w all es []
    within : {ks all : List Key} {j : Key} {es fs closing : List Event} (js : List Key) → all ≡ ks ++ j ∷ js
        → Productions plan w ks es → CutShort plan w j fs closing → CutInputs plan w all (es ++ fs) closing

-- outputs one after the other, each taken, produced and delivered
pub data Deliveries (plan : List Application) (root w : ℕ) : List ℕ → List Event → Type 0 where
  none : Deliveries plan root w [] []
  also : {n : ℕ} {ns : List ℕ} {es fs : List Event} → Production plan w (frame_key root n) es
      → Deliveries plan root w ns fs → Deliveries plan root w (n ∷ ns) ((Take w n ∷ (es ++ Deliver w n ∷ [])) ++ fs)

-- outputs, and perhaps one more that was taken and cut short: what was done, and what closes it
pub data CutDeliveries (plan : List Application) (root w : ℕ) : List Event → List Event → Type 0 where
  untaken : {ns : List ℕ} {es : List Event} → Deliveries plan root w ns es → CutDeliveries plan root w es []
  taken : {ns : List ℕ} {es fs closing : List Event} {n : ℕ} → Deliveries plan root w ns es
      → CutShort plan w (frame_key root n) fs closing → CutDeliveries plan root w (es ++ Take w n ∷ fs) closing

-- the work of a worker that failed: its failure follows what closes the work
pub data FailedWork (plan : List Application) (root w : ℕ) (why : WindowStop) : List Event → Type 0 where
  failed : {done closing : List Event} → CutDeliveries plan root w done closing
      → FailedWork plan root w why (done ++ (closing ++ Fail w why ∷ []))

-- the work of a worker that another's failure stopped: that failure stands in the journal, before what closes the work
pub record StoppedWork (plan : List Application) (root w : ℕ) (why : WindowStop)
    (journal own : List Event) : Type 0 where
  pub before : List Event
  pub after : List Event
  pub journal_is : journal ≡ before ++ after
  pub own_is : own ≡ own_events w before ++ own_events w after
  pub cut : CutDeliveries plan root w (own_events w before) (own_events w after)
  pub other : ℕ
  pub differs : other ≡ w → ⊥
  pub fails : Contains before (Fail other why)

-- a worker's own events in the journal of a window that a stop cut short: the worker failed, or another did
abbrev pub CutWork : List Application → ℕ → ℕ → WindowStop → List Event → List Event → Type 0
CutWork plan root w why journal own = FailedWork plan root w why own ⊎ StoppedWork plan root w why journal own

-- a worker whose events are the whole journal failed itself
abbrev pub AloneFails : Type 0
AloneFails = (plan : List Application) (root w : ℕ) (why : WindowStop) (journal : List Event)
    → CutWork plan root w why journal journal → FailedWork plan root w why journal

-- what one worker alone makes of a key, and of a window, is whole
pub record SerialIsWhole : Type 0 where
  pub key : (plan : List Application) (capacity : ℕ) (keys : List Key) (k : Key) → IsPlan plan → k.node < length plan
      → Production plan 0 k (serial_production plan capacity keys k).events
  pub window : (plan : List Application) (root capacity : ℕ) (keys : List Key) (first count : ℕ)
      → IsPlan plan → root < length plan
      → Deliveries plan root 0 (range_with_len first count) (serial_window plan root capacity keys first count).events

-- ---- What the work of a worker leaves open, by its own events.

-- all these keys are of later nodes
abbrev pub AllPast : ℕ → List Key → Type 0
AllPast i keys = AllByRecursion (λ k. i < k.node) keys

-- all these claims are given up, the newest of them, which is the last, first
abbrev pub abandons : ℕ → List Key → List Event
abandons w [] = []
abandons w (k ∷ ks) = abandons w ks ++ Abandon w k ∷ []

-- the worker has nothing
abbrev pub nothing : Holdings
nothing = record { claims = []; leases = []; outputs = [] }

-- a worker that has an instance has no other, and no work begins with one
pub record IsIdle (i : ℕ) (h : Holdings) : Type 0 where
  pub past : AllPast i h.claims
  pub unlent : h.leases ≡ []

pub record WorkCloses : Type 0 where
  -- a key that is produced leaves what the worker had before, and it has got the key
  pub production : (plan : List Application) (w : ℕ) (k : Key) (events : List Event) (h : Holdings) → IsPlan plan
      → k.node < length plan → IsIdle k.node h → Production plan w k events → holdings_after plan h events ≡ h
  pub productions : (plan : List Application) (w i : ℕ) (ks : List Key) (events : List Event) (h : Holdings) → IsPlan plan
      → i ≤ length plan → AllByRecursion (λ k. k.node < i) ks → IsIdle i h
      → Productions plan w ks events → holdings_after plan h events ≡ h
  pub got : (plan : List Application) (w : ℕ) (k : Key) (events : List Event)
      → Production plan w k events → has_got w k events ≡ true
  pub got_all : (plan : List Application) (w : ℕ) (ks : List Key) (events : List Event)
      → Productions plan w ks events → has_got_all w ks events ≡ true
  -- no stop is among its events
  pub running : (plan : List Application) (w : ℕ) (k : Key) (events : List Event)
      → Production plan w k events → first_stop events ≡ None
  -- outputs that are delivered leave nothing
  pub deliveries : (plan : List Application) (root w : ℕ) (ns : List ℕ) (events : List Event) → IsPlan plan
      → root < length plan → Deliveries plan root w ns events → own_holdings plan events ≡ nothing
  -- and work that was cut short leaves no claim and no instance
  pub cut_claims : (plan : List Application) (root w : ℕ) (done closing : List Event) → IsPlan plan → root < length plan
      → CutDeliveries plan root w done closing → (own_holdings plan (done ++ closing)).claims ≡ []
  pub cut_leases : (plan : List Application) (root w : ℕ) (done closing : List Event) → IsPlan plan → root < length plan
      → CutDeliveries plan root w done closing → (own_holdings plan (done ++ closing)).leases ≡ []

-- ---- The work of one worker in a window: whole, or cut short by a stop.

-- the outputs that were taken
abbrev pub takes : List Event → ℕ
takes [] = 0
takes (Take w n ∷ es) = takes es + 1
takes (e ∷ es) = takes es

-- outputs were delivered
pub record Delivered (plan : List Application) (root w : ℕ) (own : List Event) : Type 0 where
  pub outputs : List ℕ
  pub delivered : Deliveries plan root w outputs own

-- outputs were delivered until none was left, or until a stop was kept
pub record DeliversAll (plan : List Application) (root count w : ℕ) (seen own : List Event) : Type 0 where
  pub outputs : List ℕ
  pub delivered : Deliveries plan root w outputs own
  pub all : first_stop seen ≡ None → count ≤ takes seen

-- the work of a worker by its own events and by all that it saw: whole, or cut short by a stop
abbrev pub IsWork : List Application → ℕ → ℕ → ℕ → List Event → List Event → Type 0
IsWork plan root count w seen own =
    DeliversAll plan root count w seen own ⊎ ((why : WindowStop) × CutWork plan root w why seen own)
