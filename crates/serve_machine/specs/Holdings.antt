-- What a worker has, in a state and by its own events.
use Rattle.std.specs.Prelude.{◌≡◌, ℕ, ◌+◌, ◌-◌, ◌<◌, ◌≤◌, ◌==◌, Bool, true, false, ◌&&◌, ◌||◌, if◌then◌else◌, List, [], ◌∷◌, ◌++◌, slice_get, is_some, Option, Some, None}
use Rattle.std.specs.Map.{lookup}
use Rattle.fv_plane.specs.declared.key.Key.{Key}
use Rattle.clip_graph.specs.Plan.{Application}
use Rattle.frame_cache.specs.Cached.{at_key}
use Rattle.inst_table.specs.declared.place.Place.{Place}
use Rattle.inst_table.specs.Places.{same_place}
use Rattle.serve_machine.specs.declared.event.Event.{Event}
use Rattle.serve_machine.specs.declared.event.Event.TheVariants.{Hit, Claim, Enter, Leave, Evict, Publish, Abandon, Take, Deliver, Fail}
use Rattle.serve_machine.specs.Events.{worker_of, has, without, has_got, has_entered, own_events}
use Rattle.serve_machine.specs.Machine.{Fixed, State, place_named, is_open, is_by, holds_nothing, is_entered, got_at, first_stop, Machine, allowed, change, replay}
use Rattle.serve_machine.specs.Law.{start_of}

-- what a worker still has to close
pub record Holdings : Type 0 where
  -- the keys that it has claimed, the newest last
  pub claims : List Key
  -- the place of the instance that it has, or none
  pub leases : List Place
  -- the outputs that it took and has not delivered, in their order
  pub outputs : List ℕ

-- In a state.

abbrev pub claims_of : ℕ → List (Key × ℕ) → List Key
claims_of w [] = []
claims_of w (c ∷ cs) = if c.1 == w then c.0 ∷ claims_of w cs else claims_of w cs

abbrev pub leases_of : ℕ → List (Place × Option ℕ) → List Place
leases_of w [] = []
leases_of w (e ∷ es) = if is_by w e.1 then e.0 ∷ leases_of w es else leases_of w es

-- the first of these outputs has this number
abbrev pub outputs_of : {F : Type 0} → ℕ → ℕ → List ℕ → List (Option F) → List ℕ
outputs_of w n [] frames = []
outputs_of w n (v ∷ vs) [] = []
outputs_of w n (v ∷ vs) (frame ∷ frames) =
    if v == w && is_open frame then n ∷ outputs_of w (n + 1) vs frames else outputs_of w (n + 1) vs frames

abbrev pub holdings_of : {F : Type 0} → Fixed → State F → ℕ → Holdings
holdings_of fixed s w = record {
  claims = claims_of w s.claims;
  leases = leases_of w s.places;
  outputs = outputs_of w fixed.first s.taken s.frames;
}

-- By a worker's own events.

abbrev pub has_number : ℕ → List ℕ → Bool
has_number n [] = false
has_number n (m ∷ ms) = n == m || has_number n ms

abbrev pub without_number : ℕ → List ℕ → List ℕ
without_number n [] = []
without_number n (m ∷ ms) = if n == m then ms else m ∷ without_number n ms

abbrev pub next_holdings : List Application → Holdings → Event → Holdings
next_holdings plan h (Hit w k) = h
next_holdings plan h (Claim w k) = record h { claims = h.claims ++ k ∷ [] }
next_holdings plan h (Enter w i j) = record h { leases = place_named plan i j ∷ [] }
next_holdings plan h (Leave w i j) = record h { leases = [] }
next_holdings plan h (Evict w k) = h
next_holdings plan h (Publish w k) = record h { claims = without k h.claims }
next_holdings plan h (Abandon w k) = record h { claims = without k h.claims }
next_holdings plan h (Take w n) = record h { outputs = h.outputs ++ n ∷ [] }
next_holdings plan h (Deliver w n) = record h { outputs = without_number n h.outputs }
next_holdings plan h (Fail w why) = h

abbrev pub holdings_after : List Application → Holdings → List Event → Holdings
holdings_after plan h [] = h
holdings_after plan h (e ∷ es) = holdings_after plan (next_holdings plan h e) es

abbrev pub own_holdings : List Application → List Event → Holdings
own_holdings plan events = holdings_after plan (record { claims = []; leases = []; outputs = [] }) events

module _ {F : Type 0} (m : Machine F) where
  -- the output is the worker's, and not delivered
  pub record IsOpenOutput (s : State F) (w n : ℕ) : Type 0 where
    pub low : m.fixed.first ≤ n
    pub taken : slice_get s.taken (n - m.fixed.first) ≡ Some w
    pub undelivered : slice_get s.frames (n - m.fixed.first) ≡ Some None

  -- these are the worker's own events: what they tell is what it has in the state
  pub record IsToldBy (own : List Event) (s : State F) (w : ℕ) : Type 0 where
    pub holdings : own_holdings m.fixed.plan own ≡ holdings_of m.fixed s w
    pub got : (k : Key) → has_got w k own ≡ is_some (got_at w k s.got)
    pub entered : (i : ℕ) → has_entered w i own ≡ is_entered w i s.entered
    pub failed : w < m.fixed.workers → slice_get s.failed w ≡ Some (is_some (first_stop own))
    -- each claim, lease and output of them stands in the state
    pub claim : (k : Key) → has k (own_holdings m.fixed.plan own).claims ≡ is_by w (at_key k s.claims)
    pub lease : (p : Place) → (own_holdings m.fixed.plan own).leases ≡ p ∷ []
        → lookup (same_place p) s.places ≡ Some (Some w)
    pub idle : (own_holdings m.fixed.plan own).leases ≡ [] → holds_nothing w s.places ≡ true
    pub output : (n : ℕ) → has_number n (own_holdings m.fixed.plan own).outputs ≡ true → IsOpenOutput s w n

  -- a worker has the same in two states
  pub record HasSame (s t : State F) (w : ℕ) : Type 0 where
    pub holdings : holdings_of m.fixed t w ≡ holdings_of m.fixed s w
    pub got : (k : Key) → got_at w k t.got ≡ got_at w k s.got
    pub entered : (i : ℕ) → is_entered w i t.entered ≡ is_entered w i s.entered
    pub failed : slice_get t.failed w ≡ slice_get s.failed w

-- in every run what a worker has is told by its own events, and no other worker's event changes it
pub record OwnEventsTell (F : Type 0) : Type 0 where
  pub told : (m : Machine F) (cache : List (Key × F)) (places : List Place) (events : List Event) (s : State F) (w : ℕ)
      → replay m (start_of m cache places) events ≡ Some s → IsToldBy m (own_events w events) s w
  pub others : (m : Machine F) (s : State F) (e : Event) (w : ℕ) → allowed m s e ≡ true → (worker_of e ≡ w → ⊥)
      → HasSame m s (change m s e) w
