-- Which state of the machine is kept.
use Rattle.std.specs.Prelude.{◌≡◌, ℕ, ◌==◌, ◌<◌, Bool, true, false, ◌&&◌, is_some, List, length, map, Option, None}
use Rattle.std.specs.HashSet.{contains}
use Rattle.std.specs.Map.{lookup}
use Rattle.fv_plane.specs.declared.key.Key.{Key}
use Rattle.clip_graph.specs.Plan.{Application}
use Rattle.frame_cache.specs.Cached.{same_key, at_key, has_key}
use Rattle.inst_table.specs.declared.place.Place.{Place}
use Rattle.inst_table.specs.Places.{same_place}
use Rattle.serve_machine.specs.declared.event.Event.{Event}
use Rattle.serve_machine.specs.Events.{mode_at, instance_of}
use Rattle.serve_machine.specs.Machine.{Machine, meets, change, State, got_at, is_entered, is_key, place_named}
use Rattle.run_check.specs.declared.tracker.Got.{Got}
use Rattle.run_check.specs.declared.tracker.Tracker.{Tracker}
use Rattle.run_check.specs.Tallies.{same_seat}
use Rattle.run_check.specs.Claims.{AreClaims}
use Rattle.run_check.specs.Leases.{AreLeases}

-- the machine and its state over keys alone, without frames
abbrev pub KeyMachine : Type 0
KeyMachine = Machine (Unit {0})

abbrev pub KeyState : Type 0
KeyState = State (Unit {0})

abbrev pub same_got : Got → Got → Bool
same_got a b = a.worker == b.worker && same_key a.key b.key

-- each instance that a worker may name is there
abbrev pub HasInstances : List Application → ℕ → List (Place × Option ℕ) → Type 0
HasInstances plan workers places = (i w : ℕ) → i < length plan → w < workers → (mode_at plan i == 1) ≡ false
    → is_some (lookup (same_place (place_named plan i (instance_of plan w i))) places) ≡ true

pub record Mirrors (t : Tracker) (m : KeyMachine) (s : KeyState) : Type 0 where
  pub workers : t.workers ≡ m.fixed.workers
  pub first : t.first ≡ m.fixed.first
  pub count : t.count ≡ m.fixed.count
  pub capacity : t.cache.cap ≡ m.fixed.capacity
  pub cache : t.cache.entries ≡ s.cache
  pub claims : AreClaims t.claims s.claims
  pub leases : AreLeases t.leases s.places
  -- a claimed key isn't cached
  pub apart : (k : Key) → has_key k s.claims ≡ true → at_key k s.cache ≡ None
  -- and it is a frame of the plan
  pub claimed : (k : Key) → has_key k s.claims ≡ true → is_key m.fixed.plan k ≡ true
  pub instances : HasInstances m.fixed.plan m.fixed.workers s.places
  pub got : (w : ℕ) (k : Key) → contains same_got t.got (record { worker = w; key = k }) ≡ is_some (got_at w k s.got)
  pub taken : t.taken.items ≡ s.taken
  pub delivered : t.delivered.items ≡ map is_some s.frames
  pub failed : t.failed.items ≡ s.failed
  pub entered : (w i : ℕ) → contains same_seat t.entered (record { worker = w; node = i }) ≡ is_entered w i s.entered
  pub awaits : t.awaits ≡ s.awaits
  pub stopped : t.stopped ≡ is_some s.stop

-- the answer is whether the event has what it needs, and then it was made
pub record Steps (m : KeyMachine) (s : KeyState) (e : Event) (yes : Bool) (t : Tracker) : Type 0 where
  pub right : yes ≡ meets m s e
  pub made : yes ≡ true → Mirrors t m (change m s e)

-- the machine is one of this plan and this root, over keys alone
pub record IsMachineOf (m : KeyMachine) (plan : List Application) (root : ℕ) : Type 0 where
  pub plan_is : plan ≡ m.fixed.plan
  pub root_is : root ≡ m.fixed.root
  pub untold : m.is_told ≡ false
