-- Lines that are read one after the other.
use Rattle.std.specs.Prelude.{ℕ, nat_lt, nat_le, ◌&&◌, if◌then◌else◌, List, [], ◌∷◌, Option, Some, None}
use Rattle.std.specs.Option.{option_and_then}
use Rattle.clip_graph.specs.Plan.{Application}
use Rattle.serve_machine.specs.Events.{WindowEvents}
use Rattle.serve_machine.specs.Law.{start_of}
use Rattle.serve_machine.specs.Machine.{Machine, allowed, change, State}
use Rattle.serve_machine.specs.Journals.{in_window}
use Rattle.run_text.specs.declared.line.Line.{Line}
use Rattle.run_text.specs.declared.line.Line.TheVariants.{Workers, Window, Did}
use Rattle.run_text.specs.Journal.{KeyCache, places, machine_of, is_window, is_finished}

-- how far lines were read: not at all, the number of workers alone, or into a window, with its machine and its state
pub data Progress : Type 0 where
  unread : Progress
  named : ℕ → Progress
  inside : ℕ → Machine (Unit {0}) → State (Unit {0}) → Progress

module _ (plan : List Application) (root capacity : ℕ) where
  abbrev pub without_events : ℕ → ℕ → WindowEvents
  without_events first count = record { first = first; count = count; events = [] }

  -- a window begins
  abbrev pub begun : ℕ → KeyCache → ℕ → ℕ → Progress
  begun workers cache first count =
      let m = in_window (machine_of plan root capacity workers) cache (without_events first count) in
      inside workers m (start_of m cache (places plan root capacity workers))

  -- one more line, where it may come
  abbrev pub next : Progress → Line → Option Progress
  next unread (Workers count) = if nat_lt 0 count && nat_le count 16 then Some (named count) else None
  next unread (Window first count) = None
  next unread (Did event) = None
  next (named workers) (Workers count) = None
  next (named workers) (Window first count) =
      if is_window plan root capacity first count then Some (begun workers [] first count) else None
  next (named workers) (Did event) = None
  next (inside workers m s) (Workers count) = None
  next (inside workers m s) (Window first count) =
      if is_finished s && is_window plan root capacity first count then Some (begun workers s.cache first count)
      else None
  next (inside workers m s) (Did event) =
      if allowed m s event then Some (inside workers m (change m s event)) else None

  -- lines one after the other
  abbrev pub follow : Progress → List Line → Option Progress
  follow p [] = Some p
  follow p (line ∷ lines) = option_and_then (λ q. follow q lines) (next p line)
