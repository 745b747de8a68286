-- The journals of renders: windows one after the other, by one worker or by several.
use Rattle.std.specs.Prelude.{◌≡◌, ℕ, ◌+◌, ◌<◌, ◌≤◌, Bool, true, false, ◌||◌, if◌then◌else◌, List, [], ◌∷◌, ◌++◌, length, Option, Some, ◌-◌, min, None, slice_get}
use Rattle.std.specs.List.{AllByRecursion}
use Rattle.std.specs.Map.{keys_of}
use Rattle.fv_plane.specs.declared.key.Key.{Key}
use Rattle.clip_graph.specs.Plan.{Application, IsPlan, input_keys}
use Rattle.frame_cache.specs.Cached.{same_key, Differ}
use Rattle.inst_table.specs.declared.place.Place.{Place}
use Rattle.serve_machine.specs.declared.event.Event.{Event}
use Rattle.serve_machine.specs.declared.event.Event.TheVariants.{Claim, Evict, Publish, Take}
use Rattle.serve_machine.specs.Events.{frame_key, has, WindowEvents, names_source, own_events}
use Rattle.serve_machine.specs.Work.{Deliveries, CutDeliveries, FailedWork, IsWork}
use Rattle.serve_machine.specs.Machine.{State, Machine, replay}
use Rattle.serve_machine.specs.Law.{start_of, keys_machine}
use Rattle.serve_machine.specs.declared.event.WindowStop.{WindowStop}
use Rattle.serve_machine.specs.SerialRun.{windows_after, serial_run}

module _ {F : Type 0} where
  -- the machine of a window that begins with this cache
  abbrev pub in_window : Machine F → List (Key × F) → WindowEvents → Machine F
  in_window m cache v =
      record m { fixed = record m.fixed { first = v.first; count = v.count; opening = keys_of cache } }

  -- the state after a window that begins with this cache, or none where its events are no run
  abbrev pub after_window : Machine F → List Place → List (Key × F) → WindowEvents → Option (State F)
  after_window m places cache v =
      replay (in_window m cache v) (start_of (in_window m cache v) cache places) v.events

-- each window is a run, from the cache that the one before left
pub data AreRuns {F : Type 0} (m : Machine F) (places : List Place)
    : List (Key × F) → List WindowEvents → List (Key × F) → Type 0 where
  done : {cache : List (Key × F)} → AreRuns m places cache [] cache
  next : {cache after : List (Key × F)} {v : WindowEvents} {vs : List WindowEvents} (s : State F)
      → after_window m places cache v ≡ Some s → AreRuns m places s.cache vs after
      → AreRuns m places cache (v ∷ vs) after

abbrev pub all_events : List WindowEvents → List Event
all_events [] = []
all_events (v ∷ vs) = v.events ++ all_events vs

abbrev pub is_eviction : Event → Bool
is_eviction (Evict w k) = true
is_eviction e = false

abbrev pub has_evicted : List Event → Bool
has_evicted [] = false
has_evicted (e ∷ es) = is_eviction e || has_evicted es

abbrev pub is_publication : Key → Event → Bool
is_publication k (Publish w j) = same_key k j
is_publication k e = false

-- how often a key is published
abbrev pub publications : Key → List Event → ℕ
publications k [] = 0
publications k (e ∷ es) = if is_publication k e then publications k es + 1 else publications k es

abbrev pub is_claim : Key → Event → Bool
is_claim k (Claim w j) = same_key k j
is_claim k e = false

abbrev pub has_claimed : Key → List Event → Bool
has_claimed k [] = false
has_claimed k (e ∷ es) = is_claim k e || has_claimed k es

-- the keys that the outputs below a number reach: their own, and the inputs of a key that they reach
pub data IsReached (plan : List Application) (root total : ℕ) : Key → Type 0 where
  output : {n : ℕ} → n < total → IsReached plan root total (frame_key root n)
  input : {j k : Key} → IsReached plan root total k → has j (input_keys plan k) ≡ true
      → IsReached plan root total j

pub record MakesOnce (F : Type 0) : Type 0 where
  -- where nothing is evicted, no frame is made twice
  pub once : (m : Machine F) (places : List Place) (cache after : List (Key × F)) (windows : List WindowEvents)
      → Differ cache → length cache ≤ m.fixed.capacity → AreRuns m places cache windows after
      → has_evicted (all_events windows) ≡ false → (k : Key) → publications k (all_events windows) ≤ 1
  -- from an empty cache nothing is evicted where the outputs reach no more keys than may be cached
  pub enough : (m : Machine F) (places : List Place) (after : List (Key × F)) (windows : List WindowEvents) (total : ℕ)
      (keys : List Key) → length keys ≤ m.fixed.capacity
      → ((k : Key) → IsReached m.fixed.plan m.fixed.root total k → has k keys ≡ true) → AreRuns m places [] windows after
      → ((k : Key) → has_claimed k (all_events windows) ≡ true → IsReached m.fixed.plan m.fixed.root total k)
      → has_evicted (all_events windows) ≡ false

-- an output that is taken is below a number
abbrev pub TakesBelow : ℕ → Event → Type 0
TakesBelow total (Take w n) = n < total
TakesBelow total e = Unit {0}

-- whole work on outputs below a number claims only keys that these reach
abbrev pub WorkReaches : Type 0
WorkReaches = (plan : List Application) (root w total : ℕ) (ns : List ℕ) (events : List Event) (k : Key)
    → Deliveries plan root w ns events → AllByRecursion (λ n. n < total) ns → has_claimed k events ≡ true
    → IsReached plan root total k

-- and so does work that a stop cut short
abbrev pub CutWorkReaches : Type 0
CutWorkReaches = (plan : List Application) (root w total : ℕ) (done closing : List Event) (k : Key)
    → CutDeliveries plan root w done closing → AllByRecursion (TakesBelow total) done
    → has_claimed k (done ++ closing) ≡ true → IsReached plan root total k

-- ---- The journal of a render by one worker, window by window.

module _ (plan : List Application) (root capacity size total : ℕ) where
  -- the windows are the first of the serial run from an empty cache, and have the first n outputs
  pub record AreFirst (windows : List WindowEvents) (n : ℕ) : Type 0 where
    pub most : ℕ
    pub few : most ≤ n
    pub windows_are : (windows_after most plan root capacity size total []).windows ≡ windows
    pub next_is : (windows_after most plan root capacity size total []).next ≡ n

  -- the window of the next outputs was cut short by this stop
  pub record IsCut (stop : WindowStop) (n : ℕ) (window : WindowEvents) : Type 0 where
    pub some : n < total
    pub first : window.first ≡ n
    pub count : window.count ≡ min size (total - n)
    pub cut : FailedWork plan root 0 stop window.events
    pub named : names_source plan stop ≡ true

  -- windows that ended without a stop, with n outputs, and after them the one that this stop cut short
  pub record AreCut (stop : WindowStop) (windows : List WindowEvents) (n : ℕ) : Type 0 where
    pub whole : List WindowEvents
    pub last : WindowEvents
    pub windows_are : windows ≡ whole ++ last ∷ []
    pub first : AreFirst whole n
    pub cut : IsCut stop n last

  -- the journal of whole windows, and where a stop is named of the one after them that it cut short
  abbrev pub IsJournal : Option WindowStop → List WindowEvents → ℕ → Type 0
  IsJournal None windows n = AreFirst windows n
  IsJournal (Some stop) windows n = AreCut stop windows n

  -- the whole serial run
  abbrev pub IsWholeJournal : List WindowEvents → Type 0
  IsWholeJournal windows = windows ≡ (serial_run plan root capacity size total []).windows

-- ---- The journal of a render by several workers, window by window.

-- keys without their frames, the most recently used first
abbrev pub KeyCache : Type 0
KeyCache = List (Key × Unit {0})

-- these places of instances are there
module _ (plan : List Application) (root capacity workers : ℕ) (places : List Place) where
  -- the machine of each window
  abbrev pub crew_machine : Machine (Unit {0})
  crew_machine = keys_machine (record {
    plan = plan;
    root = root;
    workers = workers;
    capacity = capacity;
    first = 0;
    count = 0;
    opening = [];
  })

  -- a window that began with this cache is a run to this state, in which every output is delivered. Each worker's own
  -- events are whole work
  pub record IsWholeWindow (cache : KeyCache) (window : WindowEvents) (s : State (Unit {0})) : Type 0 where
    pub runs : after_window crew_machine places cache window ≡ Some s
    pub running : s.stop ≡ None
    pub delivered : (j : ℕ) → j < window.count → slice_get s.frames j ≡ Some (Some tt)
    pub work : (w : ℕ) → w < workers
        → (outputs : List ℕ) × Deliveries plan root w outputs (own_events w window.events)

  -- it is a run to a state in which this stop is kept. Each worker's own events are work, whole or cut short
  pub record IsCutWindow (why : WindowStop) (cache : KeyCache) (window : WindowEvents) : Type 0 where
    pub state : State (Unit {0})
    pub runs : after_window crew_machine places cache window ≡ Some state
    pub stopped : state.stop ≡ Some why
    pub named : names_source plan why ≡ true
    pub work : (w : ℕ) → w < workers → IsWork plan root window.count w window.events (own_events w window.events)

  module _ (size total : ℕ) where
    -- a window of the next outputs, after the first n
    pub record IsNext (n : ℕ) (window : WindowEvents) : Type 0 where
      pub some : n < total
      pub first : window.first ≡ n
      pub count : window.count ≡ min size (total - n)

    -- whole windows one after the other, from an empty cache: they have the first n outputs, and left this cache
    pub data AreWhole : List WindowEvents → ℕ → KeyCache → Type 0 where
      none : AreWhole [] 0 []
      also : {windows : List WindowEvents} {window : WindowEvents} {n : ℕ} {cache : KeyCache} (s : State (Unit {0}))
          → AreWhole windows n cache → IsNext n window → IsWholeWindow cache window s
          → AreWhole (windows ++ window ∷ []) (n + window.count) s.cache

    pub record AreCrewFirst (windows : List WindowEvents) (n : ℕ) : Type 0 where
      pub left : KeyCache
      pub whole : AreWhole windows n left

    -- by one worker the windows of all outputs are the serial run, and whole as those of a crew are
    pub record IsAloneJournal (windows : List WindowEvents) : Type 0 where
      pub serial : IsWholeJournal plan root capacity size total windows
      pub crew : AreCrewFirst windows total

    -- whole windows with n outputs, and after them one that this stop cut short
    pub record AreCrewCut (why : WindowStop) (windows : List WindowEvents) (n : ℕ) : Type 0 where
      pub whole : List WindowEvents
      pub last : WindowEvents
      pub windows_are : windows ≡ whole ++ last ∷ []
      pub left : KeyCache
      pub first : AreWhole whole n left
      pub next : IsNext n last
      pub cut : IsCutWindow why left last

    -- the beginning of that run
    pub record AreAloneFirst (windows : List WindowEvents) (n : ℕ) : Type 0 where
      pub serial : AreFirst plan root capacity size total windows n
      pub crew : AreCrewFirst windows n

    -- and up to a window that this stop cut short
    pub record AreAloneCut (why : WindowStop) (windows : List WindowEvents) (n : ℕ) : Type 0 where
      pub serial : AreCut plan root capacity size total why windows n
      pub crew : AreCrewCut why windows n

-- over whole windows no frame is made twice where nothing is evicted, and nothing is evicted where the outputs reach no
-- more keys than may be cached
pub record CrewsMakeOnce : Type 0 where
  pub once : (plan : List Application) (root capacity workers size total n : ℕ) (places : List Place)
      (windows : List WindowEvents) (left : KeyCache)
      → AreWhole plan root capacity workers places size total windows n left
      → has_evicted (all_events windows) ≡ false → (k : Key) → publications k (all_events windows) ≤ 1
  pub enough : (plan : List Application) (root capacity workers size total n : ℕ) (places : List Place)
      (windows : List WindowEvents) (left : KeyCache) (keys : List Key) → IsPlan plan → length keys ≤ capacity
      → ((k : Key) → IsReached plan root total k → has k keys ≡ true)
      → AreWhole plan root capacity workers places size total windows n left
      → has_evicted (all_events windows) ≡ false

-- and the same over the windows of a render that a stop cut short
pub record CutCrewsMakeOnce : Type 0 where
  pub once : (plan : List Application) (root capacity workers size total n : ℕ) (places : List Place) (why : WindowStop)
      (windows : List WindowEvents) → AreCrewCut plan root capacity workers places size total why windows n
      → has_evicted (all_events windows) ≡ false → (k : Key) → publications k (all_events windows) ≤ 1
  pub enough : (plan : List Application) (root capacity workers size total n : ℕ) (places : List Place) (why : WindowStop)
      (windows : List WindowEvents) (keys : List Key) → IsPlan plan → length keys ≤ capacity
      → ((k : Key) → IsReached plan root total k → has k keys ≡ true)
      → AreCrewCut plan root capacity workers places size total why windows n → has_evicted (all_events windows) ≡ false
