-- Events: what each says, the journals that are lists of them, keys, and what a worker has by its own events.
use Rattle.std.specs.Prelude.{ℕ, Option, Some, None, List, map, ◌==◌, Bool, false, ◌&&◌, ◌||◌, if◌then◌else◌, [], ◌∷◌, length, ◌≡◌, nat_lt, true}
use Rattle.fv_plane.specs.declared.key.Key.{Key}
use Rattle.serve_machine.specs.declared.event.Event.{Event}
use Rattle.serve_machine.specs.declared.event.Event.TheVariants.{Hit, Claim, Enter, Leave, Evict, Publish, Abandon, Take, Deliver, Fail}
use Rattle.serve_machine.specs.declared.event.WindowStop.{WindowStop}
use Rattle.serve_machine.specs.declared.event.WindowStop.TheVariants.{Read, Changed, Memory}
use Rattle.serve_machine.specs.declared.windows.Windowed.{Windowed}
use Rattle.serve_machine.specs.declared.windows.Record.{Record}
use Rattle.clip_graph.specs.Plan.{Application, application_at, is_source, IsKeyBelow}

abbrev pub worker_of : Event → ℕ
worker_of (Hit w k) = w
worker_of (Claim w k) = w
worker_of (Enter w i j) = w
worker_of (Leave w i j) = w
worker_of (Evict w k) = w
worker_of (Publish w k) = w
worker_of (Abandon w k) = w
worker_of (Take w n) = w
worker_of (Deliver w n) = w
worker_of (Fail w why) = w

abbrev pub key_of : Event → Option Key
key_of (Hit w k) = Some k
key_of (Claim w k) = Some k
key_of (Enter w i j) = None
key_of (Leave w i j) = None
key_of (Evict w k) = Some k
key_of (Publish w k) = Some k
key_of (Abandon w k) = Some k
key_of (Take w n) = None
key_of (Deliver w n) = None
key_of (Fail w why) = None

abbrev pub node_of : Event → Option ℕ
node_of (Hit w k) = Some k.node
node_of (Claim w k) = Some k.node
node_of (Enter w i j) = Some i
node_of (Leave w i j) = Some i
node_of (Evict w k) = Some k.node
node_of (Publish w k) = Some k.node
node_of (Abandon w k) = Some k.node
node_of (Take w n) = None
node_of (Deliver w n) = None
node_of (Fail w why) = None

abbrev pub source_of : WindowStop → Option ℕ
source_of (Read i) = Some i
source_of (Changed i n want got) = Some i
source_of Memory = None

-- ---- The journals of a render as lists.

-- the first output of a window, the number of its outputs, and its events
pub record WindowEvents : Type 0 where
  pub first : ℕ
  pub count : ℕ
  pub events : List Event

abbrev pub window_of : Windowed → WindowEvents
window_of windowed = record { first = windowed.first; count = windowed.count; events = windowed.events.items }

abbrev pub windows_of : Record → List WindowEvents
windows_of journal = map window_of journal.windows.items

-- ---- Keys, and the instance of a node that a worker uses.

-- frame n of a node
abbrev pub frame_key : ℕ → ℕ → Key
frame_key i n = record { node = i; n = n }

-- a frame that the plan has
abbrev pub IsKey : List Application → Key → Type 0
IsKey plan key = IsKeyBelow plan (length plan) key

abbrev pub same_key : Key → Key → Bool
same_key a b = a.node == b.node && a.n == b.n

abbrev pub has : Key → List Key → Bool
has k [] = false
has k (j ∷ js) = same_key k j || has k js

abbrev pub without : Key → List Key → List Key
without k [] = []
without k (j ∷ js) = if same_key k j then js else j ∷ without k js

-- 1 is MT_NICE_FILTER, which has no instance, 2 is MT_MULTI_INSTANCE, 3 is MT_SERIALIZED
abbrev pub mode_at : List Application → ℕ → ℕ
mode_at plan i = (application_at plan i).mode

-- one instance for all workers in mode 3, and one for each otherwise
abbrev pub instance_in : ℕ → ℕ → ℕ
instance_in mode w = if mode == 3 then 0 else w

abbrev pub instance_of : List Application → ℕ → ℕ → ℕ
instance_of plan w i = instance_in (mode_at plan i) w

-- ---- What a worker has, by its own events alone.

-- the event gives the worker the frame of the key
abbrev pub gives : ℕ → Key → Event → Bool
gives w k (Hit v j) = v == w && same_key k j
gives w k (Publish v j) = v == w && same_key k j
gives w k _ = false

abbrev pub has_got : ℕ → Key → List Event → Bool
has_got w k [] = false
has_got w k (e ∷ es) = gives w k e || has_got w k es

abbrev pub has_got_all : ℕ → List Key → List Event → Bool
has_got_all w [] es = true
has_got_all w (k ∷ ks) es = has_got w k es && has_got_all w ks es

abbrev pub enters : ℕ → ℕ → Event → Bool
enters w i (Enter v a b) = v == w && a == i
enters w i _ = false

abbrev pub has_entered : ℕ → ℕ → List Event → Bool
has_entered w i [] = false
has_entered w i (e ∷ es) = enters w i e || has_entered w i es

-- a failure names a node that the worker entered
abbrev pub may_fail : ℕ → WindowStop → List Event → Bool
may_fail w (Read i) es = has_entered w i es
may_fail w (Changed i n want got) es = has_entered w i es && nat_lt got want
may_fail w Memory es = true

-- a stop at a source is at a source of the plan
abbrev pub names_source : List Application → WindowStop → Bool
names_source plan (Read i) = is_source (application_at plan i).act
names_source plan (Changed i n want got) = is_source (application_at plan i).act
names_source plan Memory = true

-- the events of a worker
abbrev pub own_events : ℕ → List Event → List Event
own_events w [] = []
own_events w (e ∷ es) = if worker_of e == w then e ∷ own_events w es else own_events w es

-- the words above say the same of all events and of the worker's own
pub record IsOwn : Type 0 where
  pub got : (w : ℕ) (k : Key) (es : List Event) → has_got w k (own_events w es) ≡ has_got w k es
  pub got_all : (w : ℕ) (ks : List Key) (es : List Event) → has_got_all w ks (own_events w es) ≡ has_got_all w ks es
  pub entered : (w i : ℕ) (es : List Event) → has_entered w i (own_events w es) ≡ has_entered w i es
  pub fails : (w : ℕ) (why : WindowStop) (es : List Event) → may_fail w why (own_events w es) ≡ may_fail w why es
