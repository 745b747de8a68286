-- Whom a worker waits for.
use Rattle.std.specs.Prelude.{◌≡◌, ℕ, ◌<◌, true, List, [], ◌∷◌, ◌++◌, length, Some}
use Rattle.fv_plane.specs.declared.key.Key.{Key}
use Rattle.clip_graph.specs.Plan.{IsPlan, input_keys}
use Rattle.frame_cache.specs.Cached.{at_key}
use Rattle.inst_table.specs.declared.place.Place.{Place}
use Rattle.serve_machine.specs.declared.event.Event.{Event}
use Rattle.serve_machine.specs.Events.{frame_key, has, instance_of, own_events}
use Rattle.serve_machine.specs.Holdings.{claims_of, leases_of}
use Rattle.serve_machine.specs.Law.{start_of, holder_of}
use Rattle.serve_machine.specs.Machine.{Machine, replay, State, place_named}
use Rattle.run_moves.specs.Moves.{InWork, newest_node}

-- the last of these claims
pub record IsNewest (k : Key) (claims : List Key) : Type 0 where
  pub older : List Key
  pub are : claims ≡ older ++ k ∷ []

module _ {F : Type 0} (m : Machine F) where
  -- each worker is somewhere in its work
  abbrev pub AllInWork : List Event → Type 0
  AllInWork events = (w : ℕ) → w < m.fixed.workers → InWork m.fixed.plan m.fixed.root w (own_events w events)

  -- a frame that a worker may ask for next: an input of its newest claim, or an output where it has no claim
  pub data Needs (s : State F) (w : ℕ) : Key → Type 0 where
    input : {j k : Key} → IsNewest j (claims_of w s.claims) → has k (input_keys m.fixed.plan j) ≡ true → Needs s w k
    output : {n : ℕ} → claims_of w s.claims ≡ [] → Needs s w (frame_key m.fixed.root n)

  -- worker w cannot go on before worker v does; who has an instance waits for nobody
  pub data Waits (s : State F) (w v : ℕ) : Type 0 where
    -- the other has claimed a frame that it needs
    for_frame : {k : Key} → leases_of w s.places ≡ [] → Needs s w k → at_key k s.claims ≡ Some v → Waits s w v
    -- the other has the instance that it needs for its newest claim
    for_instance : {k : Key} → IsNewest k (claims_of w s.claims) → leases_of w s.places ≡ []
        → holder_of m.fixed.plan k.node (instance_of m.fixed.plan w k.node) s.places ≡ Some v → Waits s w v

  -- one worker waits for another, that for a third, and so on
  pub data WaitsOn (s : State F) : ℕ → ℕ → Type 0 where
    last : {w v : ℕ} → Waits s w v → WaitsOn s w v
    next : {w u v : ℕ} → Waits s w u → WaitsOn s u v → WaitsOn s w v

  -- the node of the worker's newest claim
  abbrev pub node_of : State F → ℕ → ℕ
  node_of s w = newest_node (length m.fixed.plan) (claims_of w s.claims)

  -- what w's waiting for v says of both
  pub data GoesDown (s : State F) (w v : ℕ) : Type 0 where
    -- the other is at an earlier node
    below : node_of s v < node_of s w → GoesDown s w v
    -- or it has an instance of that very node, and so it waits for nobody
    leased : node_of s v ≡ node_of s w → leases_of w s.places ≡ []
        → leases_of v s.places ≡ place_named m.fixed.plan (node_of s w) (instance_of m.fixed.plan w (node_of s w)) ∷ []
        → GoesDown s w v

-- in every run of workers that are somewhere in their work, waiting goes down the plan, and not in a circle
pub record WaitingGoesDown (F : Type 0) : Type 0 where
  pub down : (m : Machine F) (cache : List (Key × F)) (places : List Place) (events : List Event) (s : State F) (w v : ℕ)
      → IsPlan m.fixed.plan → m.fixed.root < length m.fixed.plan
      → replay m (start_of m cache places) events ≡ Some s → AllInWork m events → Waits m s w v → GoesDown m s w v
  pub circle : (m : Machine F) (cache : List (Key × F)) (places : List Place) (events : List Event) (s : State F) (w : ℕ)
      → IsPlan m.fixed.plan → m.fixed.root < length m.fixed.plan
      → replay m (start_of m cache places) events ≡ Some s → AllInWork m events → WaitsOn m s w w → ⊥
