-- How far the lines of a text were read, as it is kept.
use Rattle.std.specs.Prelude.{◌≡◌, ℕ, ◌<◌, nat_lt, Bool, true, false, ◌&&◌, List, [], Option, Some, None}
use Rattle.clip_graph.specs.Plan.{Application, IsPlan}
use Rattle.serve_machine.specs.declared.event.Event.{Event}
use Rattle.serve_machine.specs.Events.{worker_of}
use Rattle.serve_machine.specs.Law.{start_of}
use Rattle.serve_machine.specs.Machine.{in_turn}
use Rattle.serve_machine.specs.Journals.{in_window}
use Rattle.run_text.specs.Journal.{KeyCache, places, machine_of}
use Rattle.run_text.specs.Progress.{Progress, unread, named, inside, without_events}
use Rattle.run_check.specs.declared.tracker.Tracker.{Tracker}
use Rattle.run_check.specs.Mirrors.{KeyMachine, KeyState, Mirrors}

-- a line came, and this is known of what it led to; or it may not come
abbrev pub Goes : (Progress → Type 0) → Option Progress → Bool → Type 0
Goes Stands after true = (q : Progress) × (after ≡ Some q) × Stands q
Goes Stands after false = after ≡ None

-- these workers, and this cache of so many frames
pub record Keeps (t : Tracker) (capacity workers : ℕ) (cache : KeyCache) : Type 0 where
  pub workers_are : t.workers ≡ workers
  pub capacity_is : t.cache.cap ≡ capacity
  pub cache_is : t.cache.entries ≡ cache

-- an event of this worker may come, if it has what it needs
abbrev pub may_act : Progress → Event → Bool
may_act unread e = false
may_act (named workers) e = false
may_act (inside workers m s) e = in_turn s.awaits e && nat_lt (worker_of e) m.fixed.workers

module _ (plan : List Application) (root capacity : ℕ) where
  -- the machine of a window that begins with this cache
  abbrev pub opened : ℕ → KeyCache → ℕ → ℕ → KeyMachine
  opened workers cache first count =
      in_window (machine_of plan root capacity workers) cache (without_events plan root capacity first count)

  -- a window begins
  abbrev pub Opens : ℕ → KeyCache → ℕ → ℕ → Tracker → Type 0
  Opens workers cache first count t = Mirrors t (opened workers cache first count)
      (start_of (opened workers cache first count) cache (places plan root capacity workers))

  pub record IsUnread (t : Tracker) : Type 0 where
    pub workers_are : t.workers ≡ 0
    pub count_is : t.count ≡ 0
    pub capacity_is : t.cache.cap ≡ capacity
    pub cache_is : t.cache.entries ≡ []

  pub record IsNamed (t : Tracker) (workers : ℕ) : Type 0 where
    pub some : 0 < workers
    pub opens : Opens workers [] 0 0 t

  pub record IsInside (t : Tracker) (workers : ℕ) (m : KeyMachine) (s : KeyState) : Type 0 where
    pub some : 0 < workers
    pub cache : KeyCache
    pub first : ℕ
    pub count : ℕ
    pub outputs : 0 < count
    pub machine_is : m ≡ opened workers cache first count
    pub mirrors : Mirrors t m s

  -- what is kept stands for this
  abbrev pub StandsFor : Tracker → Progress → Type 0
  StandsFor t unread = IsUnread t
  StandsFor t (named workers) = IsNamed t workers
  StandsFor t (inside workers m s) = IsInside t workers m s

-- with the cache and the workers of the old one, a window of these outputs begins in the new one, whatever the plan
abbrev pub Begins : Tracker → ℕ → ℕ → Tracker → Type 0
Begins old first count new = (plan : List Application) (root capacity workers : ℕ) (cache : KeyCache) → IsPlan plan
    → Keeps old capacity workers cache → Opens plan root capacity workers cache first count new
