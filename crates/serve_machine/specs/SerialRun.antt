-- The events that one worker alone makes, and the keys that are cached after them, the most recently used first.
use Rattle.std.specs.Prelude.{ℕ, zero, suc, ◌+◌, ◌-◌, ◌==◌, if◌then◌else◌, min, List, [], ◌∷◌, ◌++◌, take, Option, Some, None, slice_get}
use Rattle.fv_plane.specs.declared.key.Key.{Key}
use Rattle.clip_graph.specs.Plan.{Application, input_keys}
use Rattle.serve_machine.specs.declared.event.Event.{Event}
use Rattle.serve_machine.specs.declared.event.Event.TheVariants.{Hit, Claim, Enter, Leave, Evict, Publish, Take, Deliver}
use Rattle.serve_machine.specs.Events.{frame_key, has, without, mode_at, instance_of, WindowEvents}

-- a stretch of events, and the keys after it
pub record Serial : Type 0 where
  pub events : List Event
  pub keys : List Key

-- the key that a worker evicts, if there is one
abbrev pub eviction : ℕ → Option Key → List Event
eviction w None = []
eviction w (Some k) = Evict w k ∷ []

-- a full cache loses its last key
abbrev pub eviction_from : ℕ → ℕ → List Key → List Event
eviction_from w capacity keys = eviction w (slice_get keys (capacity - 1))

-- the instance is taken and given back, unless the node's mode is 1
abbrev pub leases : List Application → ℕ → ℕ → List Event
leases plan w i =
    if mode_at plan i == 1 then [] else Enter w i (instance_of plan w i) ∷ Leave w i (instance_of plan w i) ∷ []

-- keys are produced one after the other
abbrev pub each_produced : (List Key → Key → Serial) → List Key → List Key → Serial
each_produced produce keys [] = record { events = []; keys = keys }
each_produced produce keys (k ∷ ks) =
    let one = produce keys k in
    let rest = each_produced produce one.keys ks in
    record { events = one.events ++ rest.events; keys = rest.keys }

-- a key is made after its inputs
abbrev pub made_after : Serial → List Application → ℕ → Key → Serial
made_after inputs plan capacity k = record {
  events =
      Claim 0 k
      ∷ (inputs.events ++ (leases plan 0 k.node ++ (eviction_from 0 capacity inputs.keys ++ Publish 0 k ∷ [])));
  keys = k ∷ take (capacity - 1) inputs.keys;
}

-- the serial producing of a key, through at most so many filters
abbrev pub serial_production_within : ℕ → List Application → ℕ → List Key → Key → Serial
serial_production_within zero plan capacity keys k = record { events = []; keys = keys }
serial_production_within (suc most) plan capacity keys k =
    if has k keys then record { events = Hit 0 k ∷ []; keys = k ∷ without k keys }
    else
    made_after (each_produced (serial_production_within most plan capacity) keys (input_keys plan k)) plan capacity k

-- a key that is cached is a hit, and another is made: as inputs are of earlier nodes, there are no more filters than
-- nodes up to its own
abbrev pub serial_production : List Application → ℕ → List Key → Key → Serial
serial_production plan capacity keys k = serial_production_within (suc k.node) plan capacity keys k

abbrev pub serial_delivery : ℕ → Serial → Serial
serial_delivery n frame = record { events = Take 0 n ∷ (frame.events ++ Deliver 0 n ∷ []); keys = frame.keys }

-- so many outputs from a number on
abbrev pub serial_window : List Application → ℕ → ℕ → List Key → ℕ → ℕ → Serial
serial_window plan root capacity keys first zero = record { events = []; keys = keys }
serial_window plan root capacity keys first (suc count) =
    let one = serial_delivery first (serial_production plan capacity keys (frame_key root first)) in
    let rest = serial_window plan root capacity one.keys (first + 1) count in
    record { events = one.events ++ rest.events; keys = rest.keys }

-- windows one after the other, the keys that are cached after them, and the next output
pub record SerialWindows : Type 0 where
  pub windows : List WindowEvents
  pub keys : List Key
  pub next : ℕ

-- one more window, of this size where so many outputs are left
abbrev pub one_more_window : List Application → ℕ → ℕ → ℕ → ℕ → SerialWindows → SerialWindows
one_more_window plan root capacity size total done =
    if done.next == total then done
    else (let count = min size (total - done.next) in
    let run = serial_window plan root capacity done.keys done.next count in
    record {
      windows = done.windows ++ record { first = done.next; count = count; events = run.events } ∷ [];
      keys = run.keys;
      next = done.next + count;
    })

abbrev pub windows_after : ℕ → List Application → ℕ → ℕ → ℕ → ℕ → List Key → SerialWindows
windows_after zero plan root capacity size total keys = record { windows = []; keys = keys; next = 0 }
windows_after (suc k) plan root capacity size total keys =
    one_more_window plan root capacity size total (windows_after k plan root capacity size total keys)

-- the serial run: the windows of all outputs below a number, which are no more than the outputs
abbrev pub serial_run : List Application → ℕ → ℕ → ℕ → ℕ → List Key → SerialWindows
serial_run plan root capacity size total keys = windows_after total plan root capacity size total keys
