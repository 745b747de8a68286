-- The steps of the lock: what each one does to the view of its seat.
use Rattle.std.specs.Prelude.{◌≡◌, ◌≢◌, ℕ, ◌+◌, ◌%◌, ◌^◌, max, List, [], ◌∷◌, ◌++◌, Option, Some, None, IfSome}
use Rattle.atomic_table.specs.Table.{Me, Step}
use Rattle.turn_lock.specs.declared.view.View.{View}
use Rattle.turn_lock.specs.declared.view.Stage.TheVariants.{Rests, Waits, Holds}
use Rattle.turn_lock.specs.Entries.{IsPrefix, entries_of, longer}
use Rattle.turn_lock.specs.TurnRule.{EachEnded}

module _ {E T : Type 0} where
  -- the first seat gives out all numbers but its own
  abbrev pub first_view : T → ℕ → View E T
  first_view tag seats = record { number = 0; stage = Rests; seen = []; own = []; ended = []; next = 1; limit = seats; tag = Some tag }

  -- the seat has a ticket, and knows no more than before
  abbrev pub waiting : View E T → ℕ → View E T
  waiting v ticket = record v { stage = Waits ticket }

  -- the seat has seen the list of the value that it found
  abbrev pub holding : View E T → ℕ → List E → View E T
  holding v ticket list = record v { stage = Holds ticket; seen = list }

  -- the seat has seen the list of the value that it gave back, and its own entries in it are all there are
  abbrev pub rested : (E → ℕ) → View E T → List E → View E T
  rested by v list = record v { stage = Rests; seen = list; own = entries_of by v.number list }

  -- a seat that gave out a number, and the seat of that number, which has seen the same and may give out none
  abbrev pub giver : View E T → View E T
  giver v = record v { next = v.next + 1 }

  abbrev pub newcomer : View E T → View E T
  newcomer v = record v { number = v.next; stage = Rests; own = []; ended = []; next = 0; limit = 0 }

  -- a seat that another was joined into: no entry of the other's numbers is forgotten
  abbrev pub joined_view : View E T → View E T → View E T
  joined_view v w = record v { seen = longer v.seen w.seen; ended = v.ended ++ record { number = w.number; entries = w.own; seen = w.seen } ∷ w.ended; next = max v.next w.next; limit = max v.limit w.limit }

  -- the seat that was joined: a table leaves one view to all such seats, so it has no tag
  abbrev pub spent : View E T
  spent = record { number = 0; stage = Rests; seen = []; own = []; ended = []; next = 0; limit = 0; tag = None }

-- a seat, and the slots that it holds with their values
abbrev AtTable : Type 0 → Type 0 → Type 0 → Type 0
AtTable V E T = Me (Option V) (View E T)

module _ {V E T : Type 0} where
  -- the drawer waits with a ticket, whose number modulo 2^64 was found
  abbrev pub DrawsTicket : Step (Option V) → AtTable V E T → ℕ → AtTable V E T → Type 0
  DrawsTicket step me found me' = (ticket : ℕ) × (me' ≡ (waiting me.0 ticket, me.1)) × (ticket % 2 ^ 64 ≡ found)

  -- what a seat may rely on of the value that it finds
  pub record Finds (entries : V → List E) (by : E → ℕ) (stands_for : V → T → Type 0) (v : View E T) (value : V) : Type 0 where
    pub seen : IsPrefix v.seen (entries value)
    pub own : entries_of by v.number (entries value) ≡ v.own
    pub ended : EachEnded (λ n es. entries_of by n (entries value) ≡ es) v.ended
    pub stands : IfSome v.tag (stands_for value)

  -- where its ticket was found the seat has the turn, and took the value out of the slot; else nothing changed
  abbrev pub LooksAtServing : (V → List E) → (E → ℕ) → (V → T → Type 0) → Step (Option V) → AtTable V E T → ℕ → AtTable V E T → Type 0
  LooksAtServing entries by stands_for step me found me' = (ticket : ℕ) → me.0.stage ≡ Waits ticket
      → (ticket % 2 ^ 64 ≡ found → (value : V) × (me' ≡ (holding me.0 ticket (entries value), (0, Some value) ∷ me.1)) × Finds entries by stands_for me.0 value)
      × (ticket % 2 ^ 64 ≢ found → me' ≡ me)

  -- the value in hand is back in the slot, and the turn is over
  abbrev pub ServesNext : (V → List E) → (E → ℕ) → Step (Option V) → AtTable V E T → ℕ → AtTable V E T → Type 0
  ServesNext entries by step me found me' = (slot : ℕ) (value : V) → me.1 ≡ (slot, Some value) ∷ [] → me' ≡ (rested by me.0 (entries value), [])
