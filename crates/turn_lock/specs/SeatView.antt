-- What callers see of a seat, and of a turn.
use Rattle.std.specs.Prelude.{◌≡◌, ◌⊎◌, ℕ, ◌<◌, max, List, [], ◌∷◌, ◌++◌, map, Contains, Option, Some}
pub use Rattle.atomic_table.specs.Seated.{TableId}
use Rattle.turn_lock.specs.declared.view.Ended.{Ended}
use Rattle.turn_lock.specs.declared.view.View.{View}
use Rattle.turn_lock.specs.Entries.{longer}

pub record SeatView (E T : Type 0) : Type 0 where
  -- the lock that it is a seat of
  pub lock : TableId
  pub number : ℕ
  -- the entries that it has seen; in a turn, all that the value had at the turn's start
  pub seen : List E
  -- the entries of its number among them
  pub own : List E
  -- the numbers of the seats that were joined into it, with their entries and what they had seen
  pub ended : List (Ended E)
  -- the next number that it may give out, and the first that no seat of the lock may have; both are 0 where it may give out none
  pub next : ℕ
  pub limit : ℕ
  -- what the value stands for at the start of each turn; it is Some in every seat
  pub tag : Option T

abbrev pub HasEnded : {E : Type 0} → ℕ → List (Ended E) → Type 0
HasEnded number ended = Contains (map (λ x. x.number) ended) number

module _ {E T : Type 0} where
  abbrev pub seat_view : TableId → View E T → SeatView E T
  seat_view lock v = record { lock = lock; number = v.number; seen = v.seen; own = v.own; ended = v.ended; next = v.next; limit = v.limit; tag = v.tag }

  -- the first seat of a lock, which may have this number of seats
  abbrev pub first_seat : TableId → ℕ → T → SeatView E T
  first_seat lock seats tag = record { lock = lock; number = 0; seen = []; own = []; ended = []; next = 1; limit = seats; tag = Some tag }

  -- a seat after another was joined into it: it has seen what either saw, and of the two one at most may give out numbers
  abbrev pub joined_seat : SeatView E T → SeatView E T → SeatView E T
  joined_seat seat other = record seat { seen = longer seat.seen other.seen; ended = seat.ended ++ record { number = other.number; entries = other.own; seen = other.seen } ∷ other.ended; next = max seat.next other.next; limit = max seat.limit other.limit }

  -- the seat may give out numbers, and each one given out is its own or that of a seat joined into it
  abbrev pub HasAllNumbers : SeatView E T → Type 0
  HasAllNumbers seat = (0 < seat.limit) × ((n : ℕ) → n < seat.next → (n ≡ seat.number) ⊎ HasEnded n seat.ended)
