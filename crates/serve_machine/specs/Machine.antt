-- The machine of a window, over any type F of frames: its state, the stops in a journal, and what each event needs and changes.
use Rattle.std.specs.Prelude.{ℕ, ◌==◌, nat_lt, Bool, true, false, not, ◌&&◌, ◌||◌, List, [], ◌∷◌, length, map, replicate, is_some, Option, Some, None, ◌+◌, ◌-◌, if◌then◌else◌, ◌++◌, take, slice_get, slice_set, option_map}
use Rattle.std.specs.List.{list_any, list_all}
use Rattle.std.specs.Map.{lookup, set_value}
use Rattle.std.specs.Option.{option_map_or}
use Rattle.fv_plane.specs.declared.key.Key.{Key}
use Rattle.clip_graph.specs.Plan.{Application, application_at, input_keys}
use Rattle.frame_cache.specs.Cached.{same_key, at_key, has_key, without_key, fronted, dropped_key}
use Rattle.inst_table.specs.declared.place.Place.{Place}
use Rattle.inst_table.specs.Places.{place_at, same_place}
use Rattle.serve_machine.specs.declared.event.WindowStop.{WindowStop}
use Rattle.serve_machine.specs.Events.{mode_at, worker_of, frame_key, instance_of, names_source}
use Rattle.serve_machine.specs.declared.event.Event.{Event}
use Rattle.serve_machine.specs.declared.event.Event.TheVariants.{Hit, Claim, Enter, Leave, Evict, Publish, Abandon, Take, Deliver, Fail}
use Rattle.serve_machine.specs.declared.event.WindowStop.TheVariants.{Read, Changed, Memory}

-- what a window does not change: the outputs are `count` frames of the root from `first` on, and `opening` are the keys
-- that were cached when the window began; between windows there is no output
pub record Fixed : Type 0 where
  pub plan : List Application
  pub root : ℕ
  pub workers : ℕ
  pub capacity : ℕ
  pub first : ℕ
  pub count : ℕ
  pub opening : List Key

-- what a window changes
pub record State (F : Type 0) : Type 0 where
  -- the cached frames, the most recently used first
  pub cache : List (Key × F)
  -- each claim with its worker, the newest last
  pub claims : List (Key × ℕ)
  -- each place of an instance with the worker that has it
  pub places : List (Place × Option ℕ)
  -- the frames that each worker got in this window, the newest first
  pub got : List ((ℕ × Key) × F)
  -- the nodes that each worker entered in this window, the newest first
  pub entered : List (ℕ × ℕ)
  -- who took the outputs so far, in their order
  pub taken : List ℕ
  -- what was delivered at each place of the window
  pub frames : List (Option F)
  -- the worker whose eviction awaits its publication
  pub awaits : Option ℕ
  -- for each worker whether it failed
  pub failed : List Bool
  -- the first stop
  pub stop : Option WindowStop

-- what a window begins in: these frames are cached, these places are free, and nothing has happened yet
abbrev pub opening : {F : Type 0} → List (Key × F) → List Place → ℕ → ℕ → State F
opening cache places count workers = record {
  cache = cache;
  claims = [];
  places = map (λ p. (p, None)) places;
  got = [];
  entered = [];
  taken = [];
  frames = replicate count None;
  awaits = None;
  failed = replicate workers false;
  stop = None;
}

-- the plan has the frame
abbrev pub is_key : List Application → Key → Bool
is_key plan k = nat_lt k.node (length plan) && nat_lt k.n (application_at plan k.node).info.frames

-- the place that an event means by a node and an instance
abbrev pub place_named : List Application → ℕ → ℕ → Place
place_named plan i j = place_at i j (mode_at plan i == 3)

-- a claim on a frame of the node
abbrev pub claims_at : ℕ → ℕ → List (Key × ℕ) → Bool
claims_at w i [] = false
claims_at w i (c ∷ cs) = (c.1 == w && (c.0).node == i) || claims_at w i cs

abbrev pub is_open : {A : Type 0} → Option A → Bool
is_open None = true
is_open (Some x) = false

-- there is a value, and it passes
abbrev pub is_some_and : {A : Type 0} → (A → Bool) → Option A → Bool
is_some_and test o = option_map_or test o false

-- it is this worker
abbrev pub is_by : ℕ → Option ℕ → Bool
is_by w o = is_some_and (λ v. v == w) o

-- no instance is out with the worker
abbrev pub holds_nothing : ℕ → List (Place × Option ℕ) → Bool
holds_nothing w places = list_all (λ e. not (is_by w e.1)) places

abbrev pub is_entered : ℕ → ℕ → List (ℕ × ℕ) → Bool
is_entered w i entered = list_any (λ e. e.0 == w && e.1 == i) entered

-- a value, if there is one, is noted under its name
abbrev pub noted : {A B : Type 0} → A → Option B → List (A × B) → List (A × B)
noted a None es = es
noted a (Some b) es = (a, b) ∷ es

abbrev pub with_told : {A : Type 0} → Option A → Option (List A) → Option (List A)
with_told None told = None
with_told (Some x) None = None
with_told (Some x) (Some xs) = Some (x ∷ xs)

-- all values, where there are all
abbrev pub all_told : {A : Type 0} → List (Option A) → Option (List A)
all_told [] = Some []
all_told (x ∷ rest) = with_told x (all_told rest)

module _ {F : Type 0} where
  -- no stop is kept
  abbrev pub is_running : State F → Bool
  is_running s = not (is_some s.stop)

  -- the frame that a worker got at a key
  abbrev pub got_at : ℕ → Key → List ((ℕ × Key) × F) → Option F
  got_at w k got = lookup (λ e. e.0 == w && same_key k e.1) got

  -- the frames that it got at these keys, where it got all
  abbrev pub gathered : ℕ → List Key → List ((ℕ × Key) × F) → Option (List F)
  gathered w ks got = all_told (map (λ k. got_at w k got) ks)

-- ---- The stops in a journal.

-- the first stop is kept
abbrev pub kept_stop : Option WindowStop → WindowStop → WindowStop
kept_stop None why = why
kept_stop (Some first) why = first

abbrev pub stop_of : Event → Option WindowStop
stop_of (Fail w why) = Some why
stop_of (Hit w k) = None
stop_of (Claim w k) = None
stop_of (Enter w i j) = None
stop_of (Leave w i j) = None
stop_of (Evict w k) = None
stop_of (Publish w k) = None
stop_of (Abandon w k) = None
stop_of (Take w n) = None
stop_of (Deliver w n) = None

abbrev pub earlier : Option WindowStop → Option WindowStop → Option WindowStop
earlier None later = later
earlier (Some why) later = Some why

-- the stop of the first failure
abbrev pub first_stop : List Event → Option WindowStop
first_stop [] = None
first_stop (e ∷ es) = earlier (stop_of e) (first_stop es)

abbrev pub is_read : ℕ → Option WindowStop → Bool
is_read i None = false
is_read i (Some (Read j)) = j == i
is_read i (Some (Changed j n want got)) = false
is_read i (Some Memory) = false

-- a failure is a refused read of the source at node i
abbrev pub has_read : ℕ → List Event → Bool
has_read i [] = false
has_read i (e ∷ es) = is_read i (stop_of e) || has_read i es

abbrev pub is_changed : Option WindowStop → Bool
is_changed None = false
is_changed (Some (Read i)) = false
is_changed (Some (Changed i n want got)) = true
is_changed (Some Memory) = false

-- a failure is a source that ended too early
abbrev pub has_changed : List Event → Bool
has_changed [] = false
has_changed (e ∷ es) = is_changed (stop_of e) || has_changed es

-- ---- The machine of a window: what each event needs and what it changes, over any type F of frames. Over pictures it
-- is that of a told book, and over a type of one value that of keys alone.

-- what a window does not change, what is made at a key of the frames of its inputs, and whether the book is told
pub record Machine (F : Type 0) : Type 0 where
  pub fixed : Fixed
  pub make : Key → List F → F
  pub is_told : Bool

-- while an eviction awaits its publication nothing else may come
abbrev pub in_turn : Option ℕ → Event → Bool
in_turn None e = true
in_turn (Some w) (Publish v k) = v == w
in_turn (Some w) e = false

module _ {F : Type 0} (m : Machine F) where
  -- a source that stopped the worker is one that it entered, and over a told book none ends too early
  abbrev pub may_stop : State F → ℕ → WindowStop → Bool
  may_stop s w (Read i) = is_entered w i s.entered
  may_stop s w (Changed i n want got) = is_entered w i s.entered && nat_lt got want && not m.is_told
  may_stop s w Memory = true

  -- what the event needs
  abbrev pub meets : State F → Event → Bool
  meets s (Hit w k) = has_key k s.cache && not (is_by w (at_key k s.claims)) && is_running s
  meets s (Claim w k) =
      is_key m.fixed.plan k && not (has_key k s.cache) && not (has_key k s.claims) && is_running s
  meets s (Enter w i j) =
      claims_at w i s.claims && holds_nothing w s.places && not (mode_at m.fixed.plan i == 1)
      && j == instance_of m.fixed.plan w i
      && is_some_and is_open (lookup (same_place (place_named m.fixed.plan i j)) s.places) && is_running s
  meets s (Leave w i j) = is_some_and (is_by w) (lookup (same_place (place_named m.fixed.plan i j)) s.places)
  meets s (Evict w k) =
      list_any (λ c. c.1 == w) s.claims && holds_nothing w s.places
      && length s.cache == m.fixed.capacity && is_some_and (same_key k) (dropped_key m.fixed.capacity s.cache)
  meets s (Publish w k) =
      is_by w (at_key k s.claims) && holds_nothing w s.places
      && is_some (gathered w (input_keys m.fixed.plan k) s.got) && nat_lt (length s.cache) m.fixed.capacity
  meets s (Abandon w k) = is_by w (at_key k s.claims)
  meets s (Take w n) =
      n == m.fixed.first + length s.taken && nat_lt (length s.taken) m.fixed.count && is_running s
  meets s (Deliver w n) =
      not (nat_lt n m.fixed.first) && is_by w (slice_get s.taken (n - m.fixed.first))
      && is_some_and is_open (slice_get s.frames (n - m.fixed.first))
      && is_some (got_at w (frame_key m.fixed.root n) s.got)
  meets s (Fail w why) =
      is_some_and not (slice_get s.failed w) && names_source m.fixed.plan why && may_stop s w why

  abbrev pub allowed : State F → Event → Bool
  allowed s e = in_turn s.awaits e && (nat_lt (worker_of e) m.fixed.workers && meets s e)

  -- what the event changes
  abbrev pub change : State F → Event → State F
  change s (Hit w k) = record s { cache = fronted k s.cache; got = noted (w, k) (at_key k s.cache) s.got }
  change s (Claim w k) = record s { claims = s.claims ++ (k, w) ∷ [] }
  change s (Enter w i j) = record s {
    places = set_value (same_place (place_named m.fixed.plan i j)) s.places (Some w);
    entered = (w, i) ∷ s.entered;
  }
  change s (Leave w i j) = record s {
    places = set_value (same_place (place_named m.fixed.plan i j)) s.places None;
  }
  change s (Evict w k) = record s { cache = take (m.fixed.capacity - 1) s.cache; awaits = Some w }
  change s (Publish w k) =
      let made = option_map (m.make k) (gathered w (input_keys m.fixed.plan k) s.got) in
      record s {
        cache = noted k made s.cache;
        claims = without_key k s.claims;
        got = noted (w, k) made s.got;
        awaits = None;
      }
  change s (Abandon w k) = record s { claims = without_key k s.claims }
  change s (Take w n) = record s { taken = s.taken ++ w ∷ [] }
  change s (Deliver w n) = record s {
    frames = slice_set s.frames (n - m.fixed.first) (got_at w (frame_key m.fixed.root n) s.got);
  }
  change s (Fail w why) = record s { failed = slice_set s.failed w true; stop = Some (kept_stop s.stop why) }

  -- the state after these events, or none where one of them is not allowed in its place
  abbrev pub replay : State F → List Event → Option (State F)
  replay s [] = Some s
  replay s (e ∷ es) = if allowed s e then replay (change s e) es else None
