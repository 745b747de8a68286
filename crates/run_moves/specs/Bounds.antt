-- How many events a window has at most.
use Rattle.std.specs.Prelude.{◌≡◌, ◌⊎◌, ℕ, zero, suc, ◌+◌, ◌*◌, ◌<◌, ◌≤◌, true, if◌then◌else◌, List, [], ◌∷◌, ◌++◌, length, is_some, Some}
use Rattle.std.specs.List.{list_all}
use Rattle.fv_plane.specs.declared.key.Key.{Key}
use Rattle.clip_graph.specs.Plan.{Application, application_at, IsPlan, input_keys}
use Rattle.inst_table.specs.declared.place.Place.{Place}
use Rattle.serve_machine.specs.declared.event.Event.{Event}
use Rattle.serve_machine.specs.declared.event.Event.TheVariants.{Claim}
use Rattle.serve_machine.specs.declared.event.WindowStop.{WindowStop}
use Rattle.serve_machine.specs.Events.{frame_key, own_events}
use Rattle.serve_machine.specs.Work.{Production, CutDeliveries, FailedWork}
use Rattle.serve_machine.specs.Law.{start_of}
use Rattle.serve_machine.specs.Machine.{Machine, replay, State}
use Rattle.serve_machine.specs.Journals.{is_eviction}
use Rattle.run_moves.specs.Moves.{InWork}
use Rattle.run_moves.specs.Waiting.{AllInWork}
use Rattle.run_moves.specs.Moving.{CanRender, IsUnderWay, Moves}

-- the sum over some keys
abbrev pub sum_over : (Key → ℕ) → List Key → ℕ
sum_over size [] = 0
sum_over size (k ∷ ks) = size k + sum_over size ks

-- a key and all below it, each as often as it is asked for, through at most so many filters
abbrev pub tree_within : ℕ → List Application → Key → ℕ
tree_within zero plan k = 0
tree_within (suc most) plan k = 1 + sum_over (tree_within most plan) (input_keys plan k)

-- the tree of a key: as inputs are of earlier nodes, there are no more filters than nodes up to its own
abbrev pub tree_size : List Application → Key → ℕ
tree_size plan k = tree_within (suc k.node) plan k

-- an output is taken and delivered, and each key of its tree is claimed, has its instance taken and given back, and is
-- published, perhaps after an eviction
abbrev pub output_events : List Application → ℕ → ℕ → ℕ
output_events plan root n = 2 + 5 * tree_size plan (frame_key root n)

-- so many outputs from a number on
abbrev pub window_events : List Application → ℕ → ℕ → ℕ → ℕ
window_events plan root first zero = 0
window_events plan root first (suc count) = window_events plan root first count + output_events plan root (first + count)

-- the sum over some events
abbrev pub sum_of : (Event → ℕ) → List Event → ℕ
sum_of cost [] = 0
sum_of cost (e ∷ es) = cost e + sum_of cost es

-- a claim brings at most four events of its key, and one at each input
abbrev pub claim_cost : List Application → Event → ℕ
claim_cost plan (Claim w k) = 4 + length (input_keys plan k)
claim_cost plan e = 0

abbrev pub eviction_cost : Event → ℕ
eviction_cost e = if is_eviction e then 1 else 0

-- work that a stop cut short, closed, and perhaps with the worker's own failure at its end
pub data IsClosed (plan : List Application) (root w : ℕ) : List Event → Type 0 where
  closed : {done closing : List Event} → CutDeliveries plan root w done closing → IsClosed plan root w (done ++ closing)
  failed : {why : WindowStop} {events : List Event} → FailedWork plan root w why events → IsClosed plan root w events

module _ {F : Type 0} (m : Machine F) (cache : List (Key × F)) (places : List Place) where
  -- no run of the window has more events while it is under way
  abbrev pub most_events : ℕ
  most_events = window_events m.fixed.plan m.fixed.root m.fixed.first m.fixed.count

  -- nor more than this where a stop came: a worker gives back what it holds, and may fail
  abbrev pub most_stopped : ℕ
  most_stopped = most_events + m.fixed.workers * ((application_at m.fixed.plan m.fixed.root).depth + 2)

  -- a way on that delivers all outputs
  pub record Ends (events : List Event) : Type 0 where
    pub turns : List Event
    pub last : State F
    pub goes_on : IsUnderWay m cache places (events ++ turns) last
    pub delivered : list_all is_some last.frames ≡ true
    pub few : length (events ++ turns) ≤ most_events

-- work is bounded, so a window whose workers take turns while they can ends with all outputs delivered
pub record WorkIsBounded (F : Type 0) : Type 0 where
  pub production : (plan : List Application) (w : ℕ) (k : Key) (events : List Event) → IsPlan plan → k.node < length plan
      → Production plan w k events → length events ≤ 5 * tree_size plan k
  pub window : (m : Machine F) (cache : List (Key × F)) (places : List Place) (events : List Event) (s : State F)
      → IsPlan m.fixed.plan → m.fixed.root < length m.fixed.plan
      → replay m (start_of m cache places) events ≡ Some s → AllInWork m events
      → length events ≤ most_events m cache places
  -- also where some workers closed their work after a stop
  pub stopped : (m : Machine F) (cache : List (Key × F)) (places : List Place) (events : List Event) (s : State F)
      → IsPlan m.fixed.plan → m.fixed.root < length m.fixed.plan → replay m (start_of m cache places) events ≡ Some s
      → ((w : ℕ) → w < m.fixed.workers → InWork m.fixed.plan m.fixed.root w (own_events w events)
      ⊎ IsClosed m.fixed.plan m.fixed.root w (own_events w events)) → length events ≤ most_stopped m cache places
  -- by what was claimed and evicted
  pub claims : (m : Machine F) (cache : List (Key × F)) (places : List Place) (events : List Event) (s : State F)
      → IsPlan m.fixed.plan → m.fixed.root < length m.fixed.plan
      → replay m (start_of m cache places) events ≡ Some s → AllInWork m events
      → length events ≤ 3 * length s.taken + sum_of (claim_cost m.fixed.plan) events + sum_of eviction_cost events
  -- where no one can take a turn, all outputs are delivered
  pub complete : (m : Machine F) (cache : List (Key × F)) (places : List Place) (events : List Event) (s : State F)
      → CanRender m cache places → IsUnderWay m cache places events s
      → ((w : ℕ) → Moves m cache places events s w → ⊥) → list_all is_some s.frames ≡ true
  -- and from every state of such a run all outputs can be delivered
  pub ends : (m : Machine F) (cache : List (Key × F)) (places : List Place) (events : List Event) (s : State F)
      → CanRender m cache places → IsUnderWay m cache places events s → Ends m cache places events
