-- The journal of a window leads to the core.
use Rattle.std.specs.Prelude.{◌≡◌, ℕ, ◌≤◌, List, length, map, option_map, Option, Some, None}
use Rattle.std.specs.List.{IsDistinct}
use Rattle.std.specs.Map.{keys_of}
use Rattle.fv_plane.specs.declared.key.Key.{Key}
use Rattle.clip_graph.specs.Plan.{Application, IsPlan, key_picture}
use Rattle.frame_cache.specs.Cached.{same_key}
use Rattle.inst_table.specs.declared.place.Place.{Place}
use Rattle.inst_table.specs.declared.place.Slot.{Slot}
use Rattle.inst_table.specs.declared.place.Slot.TheVariants.{Free, Leased}
use Rattle.inst_table.specs.Places.{slot_at}
use Rattle.serve_machine.specs.Machine.{State, opening, replay}
use Rattle.serve_machine.specs.Law.{seen, bare, keys_machine, start_of, IsRefined, told_machine}
use Rattle.serve_core.specs.CoreValue.{CoreValue}
use Rattle.serve_core.specs.Sources.{place_of}
use Rattle.fv_plane.specs.Picture.{Picture}
use Rattle.serve_core.specs.Stands.{Stands}
use Rattle.serve_machine.specs.Events.{WindowEvents}
use Rattle.serve_machine.specs.Journals.{after_window}

abbrev pub holder : {I : Type 0} → Slot I → Option ℕ
holder (Free x) = None
holder (Leased w) = Some w

-- an instance that is out is the one that its worker means by the node
abbrev pub AreMeant : {I : Type 0} → List Application → List (Place × Slot I) → Type 0
AreMeant plan table = (p : Place) (w : ℕ) → slot_at p table ≡ Some (Leased w) → p ≡ place_of plan w p.node

abbrev pub keys_alone : List Key → List (Key × Unit {0})
keys_alone keys = map (λ k. (k, tt)) keys

module _ {I : Type 0} where
  -- the window began with the opening keys cached, each place free and nothing done
  abbrev pub opening_of : CoreValue I → State (Unit {0})
  opening_of c = opening (keys_alone c.fixed.opening) (keys_of c.table) c.fixed.count c.fixed.workers

  -- the keys of a core; what its workers got and entered stands in the journal alone
  abbrev pub state_of : CoreValue I → List ((ℕ × Key) × Unit {0}) → List (ℕ × ℕ) → State (Unit {0})
  state_of c got entered = record {
    cache = seen bare c.cache;
    claims = c.claims;
    places = seen holder c.table;
    got = got;
    entered = entered;
    taken = c.outputs.taken;
    frames = map (option_map bare) c.outputs.frames;
    awaits = None;
    failed = c.failed;
    stop = c.stop;
  }

  -- in a window the journal is a run of keys, from the opening to the core
  pub record IsRun (c : CoreValue I) : Type 0 where
    pub differ : IsDistinct same_key c.fixed.opening
    pub few : length c.fixed.opening ≤ c.fixed.capacity
    pub got : List ((ℕ × Key) × Unit {0})
    pub entered : List (ℕ × ℕ)
    pub runs : replay (keys_machine c.fixed) (opening_of c) c.journal ≡ Some (state_of c got entered)
    pub meant : AreMeant c.fixed.plan c.table

-- ---- Over a told book the journal of a window leads to the core's own frames.

-- keys with the frames that a told book gives
abbrev pub framed : List (List Picture) → List Application → List Key → List (Key × Picture)
framed book plan keys = map (λ k. (k, key_picture book plan k)) keys

module _ {I : Type 0} where
  -- the window of a core begins with the frames of the opening keys
  abbrev pub told_opening : List (List Picture) → CoreValue I → State Picture
  told_opening book c =
      start_of (told_machine book c.fixed) (framed book c.fixed.plan c.fixed.opening) (keys_of c.table)

  -- the journal is a run over frames, and these are the core's
  pub record IsToldRun (book : List (List Picture)) (c : CoreValue I) : Type 0 where
    pub state : State Picture
    pub runs : replay (told_machine book c.fixed) (told_opening book c) c.journal ≡ Some state
    pub refined : IsRefined (told_machine book c.fixed) (key_picture book c.fixed.plan) (told_opening book c) c.journal
        state
    pub cached : state.cache ≡ c.cache
    pub claimed : state.claims ≡ c.claims
    pub lent : state.places ≡ seen holder c.table
    pub taken : state.taken ≡ c.outputs.taken
    pub delivered : state.frames ≡ c.outputs.frames
    pub failed : state.failed ≡ c.failed
    pub stopped : state.stop ≡ c.stop

  abbrev pub RunsAreTold : (I → Option (List Picture)) → (I → ℕ) → Type 0
  RunsAreTold feed faults = (book : List (List Picture)) (numbers : List ℕ) (c : CoreValue I)
      → Stands feed faults (Some book) numbers c → IsPlan c.fixed.plan → IsRun c → IsToldRun book c

-- ---- The windows of a core are runs one after the other.

module _ {I : Type 0} where
  -- the window of a core so far
  abbrev pub window_so_far : CoreValue I → WindowEvents
  window_so_far c = record { first = c.fixed.first; count = c.fixed.count; events = c.journal }

  -- it is a run from the opening keys, and leaves the keys that are cached, with which the next window begins
  pub record IsWindowRun (c : CoreValue I) : Type 0 where
    pub state : State (Unit {0})
    pub ran : after_window (keys_machine c.fixed) (keys_of c.table) (keys_alone c.fixed.opening) (window_so_far c)
        ≡ Some state
    pub left : state.cache ≡ keys_alone (keys_of c.cache)

abbrev pub WindowsAreRuns : Type 0 → Type 0
WindowsAreRuns I = (c : CoreValue I) → IsRun c → IsWindowRun c
