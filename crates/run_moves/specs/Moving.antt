-- Someone can always go on.
use Rattle.std.specs.Prelude.{◌≡◌, ℕ, ◌+◌, ◌<◌, ◌≤◌, true, List, [], ◌∷◌, ◌++◌, length, slice_get, Some, None}
use Rattle.std.specs.List.{list_any}
use Rattle.fv_plane.specs.declared.key.Key.{Key}
use Rattle.clip_graph.specs.Plan.{application_at, IsPlan}
use Rattle.frame_cache.specs.Cached.{Differ}
use Rattle.inst_table.specs.declared.place.Place.{Place}
use Rattle.inst_table.specs.Places.{same_place}
use Rattle.serve_machine.specs.declared.event.Event.{Event}
use Rattle.serve_machine.specs.declared.event.Event.TheVariants.{Evict, Publish}
use Rattle.serve_machine.specs.Events.{worker_of, mode_at, instance_of}
use Rattle.serve_machine.specs.Work.{nothing}
use Rattle.serve_machine.specs.Holdings.{holdings_of}
use Rattle.serve_machine.specs.Law.{start_of}
use Rattle.serve_machine.specs.Machine.{Machine, replay, State, place_named}
use Rattle.run_moves.specs.Waiting.{AllInWork, Waits}

-- one turn of a worker: an event, or an eviction and the publication that follows it
pub data IsTurn (w : ℕ) : List Event → Type 0 where
  single : {e : Event} → worker_of e ≡ w → IsTurn w (e ∷ [])
  evicts : {gone k : Key} → IsTurn w (Evict w gone ∷ Publish w k ∷ [])

module _ {F : Type 0} (m : Machine F) (cache : List (Key × F)) (places : List Place) where
  -- what a window needs so that it can be rendered
  pub record CanRender : Type 0 where
    pub plan : IsPlan m.fixed.plan
    pub root : m.fixed.root < length m.fixed.plan
    pub outputs : m.fixed.first + m.fixed.count ≤ (application_at m.fixed.plan m.fixed.root).info.frames
    pub someone : 0 < m.fixed.workers
    pub room : 0 < m.fixed.capacity
    pub few : length cache ≤ m.fixed.capacity
    pub differ : Differ cache
    -- each worker finds the instance that it needs at each node, perhaps out with another
    pub instances : (w i : ℕ) → w < m.fixed.workers → i < length m.fixed.plan → (mode_at m.fixed.plan i ≡ 1 → ⊥)
        → list_any (same_place (place_named m.fixed.plan i (instance_of m.fixed.plan w i))) places ≡ true

  -- the events lead to this state, and no stop has come; each worker is somewhere in its work
  pub record IsUnderWay (events : List Event) (s : State F) : Type 0 where
    pub runs : replay m (start_of m cache places) events ≡ Some s
    pub work : AllInWork m events
    pub running : s.stop ≡ None
    pub settled : s.awaits ≡ None

  -- the worker can take a turn, after which the window is under way as before
  pub record Moves (events : List Event) (s : State F) (w : ℕ) : Type 0 where
    pub turn : List Event
    pub is_turn : IsTurn w turn
    pub after : State F
    pub goes_on : IsUnderWay (events ++ turn) after

  -- what a worker of the window is at
  pub data GoesOn (events : List Event) (s : State F) (w : ℕ) : Type 0 where
    moves : Moves events s w → GoesOn events s w
    waits : {v : ℕ} → Waits m s w v → GoesOn events s w
    -- it has nothing, and all outputs are taken
    rests : holdings_of m.fixed s w ≡ nothing → m.fixed.count ≤ length s.taken → GoesOn events s w

pub record SomeoneMoves (F : Type 0) : Type 0 where
  -- a window that begins is under way
  pub begins : (m : Machine F) (cache : List (Key × F)) (places : List Place)
      → IsUnderWay m cache places [] (start_of m cache places)
  -- each worker can take a turn, or waits for another, or has no more to do
  pub each : (m : Machine F) (cache : List (Key × F)) (places : List Place) (events : List Event) (s : State F) (w : ℕ)
      → CanRender m cache places → IsUnderWay m cache places events s → w < m.fixed.workers
      → GoesOn m cache places events s w
  -- while an output is not delivered, one of them can take a turn
  pub someone : (m : Machine F) (cache : List (Key × F)) (places : List Place) (events : List Event) (s : State F) (j : ℕ)
      → CanRender m cache places → IsUnderWay m cache places events s → slice_get s.frames j ≡ Some None
      → (w : ℕ) × Moves m cache places events s w
