-- What holds of every run, and runs of keys alone beside those over frames.
use Rattle.std.specs.Prelude.{◌≡◌, ℕ, ◌+◌, ◌≤◌, ◌==◌, Bool, true, false, ◌&&◌, if◌then◌else◌, List, [], ◌∷◌, ◌++◌, length, map, slice_get, Option, Some, None, option_map}
use Rattle.std.specs.Map.{lookup}
use Rattle.fv_plane.specs.Picture.{Picture}
use Rattle.fv_plane.specs.declared.key.Key.{Key}
use Rattle.clip_graph.specs.Plan.{Application, IsPlan, input_keys, key_picture, key_made}
use Rattle.frame_cache.specs.Cached.{at_key, has_key, Differ}
use Rattle.inst_table.specs.declared.place.Place.{Place}
use Rattle.inst_table.specs.Places.{same_place}
use Rattle.serve_machine.specs.declared.event.Event.{Event}
use Rattle.serve_machine.specs.declared.event.Event.TheVariants.{Enter, Leave}
use Rattle.serve_machine.specs.Events.{IsKey, frame_key}
use Rattle.serve_machine.specs.Machine.{Fixed, State, opening, place_named, got_at, Machine, replay, has_changed}

module _ {F : Type 0} (pix : Key → F) where
  -- each frame is the one that its key stands for
  abbrev pub AreRight : List (Key × F) → Type 0
  AreRight cache = (k : Key) (x : F) → at_key k cache ≡ Some x → x ≡ pix k

  abbrev pub GotRight : List ((ℕ × Key) × F) → Type 0
  GotRight got = (w : ℕ) (k : Key) (x : F) → got_at w k got ≡ Some x → x ≡ pix k

  -- the outputs are frames of the root from a number on
  abbrev pub DeliveredRight : ℕ → ℕ → List (Option F) → Type 0
  DeliveredRight root first frames =
      (j : ℕ) (x : F) → slice_get frames j ≡ Some (Some x) → x ≡ pix (frame_key root (first + j))

-- an Enter or a Leave of this instance of the node
abbrev pub uses : ℕ → ℕ → Event → Bool
uses i j (Enter w a b) = a == i && b == j
uses i j (Leave w a b) = a == i && b == j
uses i j e = false

abbrev pub uses_of : ℕ → ℕ → List Event → List Event
uses_of i j [] = []
uses_of i j (e ∷ es) = if uses i j e then e ∷ uses_of i j es else uses_of i j es

-- Enter and Leave take turns: an Enter comes first, and each Leave is by the worker of the Enter before it. The instance
-- is out with the worker of the last Enter, or with none where the last is a Leave.
pub data TakeTurns (i j : ℕ) : List Event → Option ℕ → Type 0 where
  unused : TakeTurns i j [] None
  out : {w : ℕ} → TakeTurns i j (Enter w i j ∷ []) (Some w)
  back : {w : ℕ} {es : List Event} {holder : Option ℕ} → TakeTurns i j es holder
      → TakeTurns i j (Enter w i j ∷ Leave w i j ∷ es) holder

abbrev pub worker_at : Option (Option ℕ) → Option ℕ
worker_at None = None
worker_at (Some holder) = holder

-- who has an instance of a node in a state
abbrev pub holder_of : List Application → ℕ → ℕ → List (Place × Option ℕ) → Option ℕ
holder_of plan i j places = worker_at (lookup (same_place (place_named plan i j)) places)

module _ {F : Type 0} (m : Machine F) where
  -- the state that a window begins in
  abbrev pub start_of : List (Key × F) → List Place → State F
  start_of cache places = opening cache places m.fixed.count m.fixed.workers

  module _ (pix : Key → F) where
    -- what is made of the frames of a key's inputs is the frame of the key
    abbrev pub Makes : Type 0
    Makes = (k : Key) → IsKey m.fixed.plan k → m.make k (map pix (input_keys m.fixed.plan k)) ≡ pix k

    -- a cache that a window may begin with
    pub record IsOpening (cache : List (Key × F)) : Type 0 where
      pub right : AreRight pix cache
      pub differ : Differ cache
      pub few : length cache ≤ m.fixed.capacity

    -- the events are a run from the start to the state s
    pub record IsRefined (start : State F) (events : List Event) (s : State F) : Type 0 where
      pub cached : AreRight pix s.cache
      pub got : GotRight pix s.got
      pub delivered : DeliveredRight pix m.fixed.root m.fixed.first s.frames
      pub cached_once : Differ s.cache
      pub claimed_once : Differ s.claims
      pub apart : (k : Key) → has_key k s.claims ≡ true → at_key k s.cache ≡ None
      pub claimed : (k : Key) → has_key k s.claims ≡ true → IsKey m.fixed.plan k
      pub bounded : length s.cache ≤ m.fixed.capacity
      -- each instance has one holder at a time
      pub exclusive : (i j : ℕ) → TakeTurns i j (uses_of i j events) (holder_of m.fixed.plan i j s.places)
      -- a frame that a worker got stays, whatever is evicted
      pub stays : (es fs : List Event) (r : State F) (w : ℕ) (k : Key) (x : F) → events ≡ es ++ fs
          → replay m start es ≡ Some r → got_at w k r.got ≡ Some x → got_at w k s.got ≡ Some x

-- over any frames
abbrev pub RunsRefine : Type 0 → Type 0
RunsRefine F = (m : Machine F) (pix : Key → F) (cache : List (Key × F)) (places : List Place) (events : List Event)
    (s : State F) → Makes m pix → IsOpening m pix cache → replay m (start_of m cache places) events ≡ Some s
    → IsRefined m pix (start_of m cache places) events s

-- the machine of a told book
abbrev pub told_machine : List (List Picture) → Fixed → Machine Picture
told_machine book fixed = record { fixed = fixed; make = key_made book fixed.plan; is_told = true }

-- over a told book each frame is the clip's
abbrev pub ToldRunsRefine : Type 0
ToldRunsRefine = (book : List (List Picture)) (fixed : Fixed) (cache : List (Key × Picture)) (places : List Place)
    (events : List Event) (s : State Picture) → IsPlan fixed.plan
    → IsOpening (told_machine book fixed) (key_picture book fixed.plan) cache
    → replay (told_machine book fixed) (start_of (told_machine book fixed) cache places) events ≡ Some s
    → IsRefined (told_machine book fixed) (key_picture book fixed.plan)
    (start_of (told_machine book fixed) cache places) events s

-- ---- Runs of keys alone, and runs over frames.

-- the values are seen through a function
abbrev pub seen : {K X Y : Type 0} → (X → Y) → List (K × X) → List (K × Y)
seen see es = map (λ e. (e.0, see e.1)) es

-- the frames are seen through a function
abbrev pub seen_state : {F G : Type 0} → (F → G) → State F → State G
seen_state see s = record {
  cache = seen see s.cache;
  claims = s.claims;
  places = s.places;
  got = seen see s.got;
  entered = s.entered;
  taken = s.taken;
  frames = map (option_map see) s.frames;
  awaits = s.awaits;
  failed = s.failed;
  stop = s.stop;
}

-- a frame that is there, and no more
abbrev pub bare : {F : Type 0} → F → Unit {0}
bare x = tt

-- the machine of keys alone, whose book is not told
abbrev pub keys_machine : Fixed → Machine (Unit {0})
keys_machine fixed = record { fixed = fixed; make = λ k frames. tt; is_told = false }

-- the events lead from the start to a state with these keys
pub record IsLifted {F : Type 0} (m : Machine F) (start : State F) (events : List Event) (keys : State (Unit {0}))
    : Type 0 where
  pub state : State F
  pub runs : replay m start events ≡ Some state
  pub same : seen_state bare state ≡ keys

-- a run of keys is a run over frames too, since an event asks of a frame only whether it is there; over a told book no
-- source may have ended too early
abbrev pub RunsLift : Type 0 → Type 0
RunsLift F = (m : Machine F) (start : State F) (events : List Event) (keys : State (Unit {0}))
    → (m.is_told ≡ true → has_changed events ≡ false)
    → replay (keys_machine m.fixed) (seen_state bare start) events ≡ Some keys → IsLifted m start events keys
