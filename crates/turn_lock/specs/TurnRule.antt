-- The rule of the lock's table, which holds between any two steps.
-- Word 0 counts the tickets that were drawn, and word 1 the turns that ended, which is the ticket that is served; both are kept modulo 2^64. Seat i of the table has the number i.
use Rattle.std.specs.Prelude.{◌≡◌, ◌≢◌, ℕ, ◌+◌, ◌%◌, ◌^◌, ◌<◌, ◌≤◌, List, [], ◌∷◌, length, sum_by, All, Option, Some, None, IsSome}
use mathlib.Core.Option.{some, none}
use mathlib.Core.Option as maybe
use lib.ListN.{get_elem?}
use Rattle.atomic_table.specs.Table.{State}
use Rattle.turn_lock.specs.declared.view.Ended.{Ended}
use Rattle.turn_lock.specs.declared.view.View.{View}
use Rattle.turn_lock.specs.declared.view.Stage.{Stage}
use Rattle.turn_lock.specs.declared.view.Stage.TheVariants.{Rests, Waits, Holds}
use Rattle.turn_lock.specs.Entries.{IsPrefix, entries_of}

-- how many tickets a seat has: it draws one only when it has none
abbrev pub tickets : Stage → ℕ
tickets Rests = 0
tickets (Waits ticket) = 1
tickets (Holds ticket) = 1

-- the ticket of a seat that has one
abbrev pub ticket_of : Stage → ℕ
ticket_of Rests = 0
ticket_of (Waits ticket) = ticket
ticket_of (Holds ticket) = ticket

-- what a seat's stage shows: a ticket has one owner, is served at most once, and lets its owner alone take the turn
module _ (drawn serving : ℕ) (turn : maybe.Option ℕ) (owner : ℕ → ℕ) (seat : ℕ) where
  abbrev pub FitsTickets : Stage → Type 0
  FitsTickets Rests = turn ≢ some seat
  FitsTickets (Waits ticket) = (serving ≤ ticket) × (ticket < drawn) × (owner ticket ≡ seat) × (turn ≢ some seat)
  FitsTickets (Holds ticket) = (ticket ≡ serving) × (serving < drawn) × (owner ticket ≡ seat) × (turn ≡ some seat)

-- the fact holds of each ended number and its entries
abbrev pub EachEnded : {E : Type 0} → (ℕ → List E → Type 0) → List (Ended E) → Type 0
EachEnded P ended = All (λ x. P x.number x.entries) ended

-- the seat of this number was joined into another: it waits for no turn, and nothing else is said of it
abbrev pub IsSpent : {E T : Type 0} → List (View E T) → ℕ → Type 0
IsSpent {E} {T} views n = (v : View E T) × (get_elem? views n ≡ some v) × (v.tag ≡ None) × (v.stage ≡ Rests)

-- an ended number adds nothing any more: these are its entries in the list, all of them are seen, and its seat is spent
abbrev pub IsSettled : {E T : Type 0} → (E → ℕ) → List E → List E → List (View E T) → ℕ → List E → Type 0
IsSettled by list seen views n es = (entries_of by n list ≡ es) × (entries_of by n seen ≡ es) × IsSpent views n

module _ {V E T : Type 0} (entries : V → List E) (by : E → ℕ) (stands_for : V → T → Type 0) where
  -- the slot has the value, with the entries that the rule keeps, unless a turn is held: so no entry is lost or made up between turns
  abbrev pub IsSlot : List E → T → maybe.Option ℕ → List (maybe.Option (Option V)) → Type 0
  IsSlot list tag none homes = (v : V) × (homes ≡ some (Some v) ∷ []) × (entries v ≡ list) × stands_for v tag
  IsSlot list tag (some seat) homes = homes ≡ none ∷ []

  -- what a seat knows is true: it saw a beginning of the list, which has all entries of its number and of the ended ones
  pub record Knows (list : List E) (tag : T) (views : List (View E T)) (giver seat : ℕ) (v : View E T) : Type 0 where
    pub numbered : v.number ≡ seat
    pub begins : IsPrefix v.seen list
    pub own_all : entries_of by seat list ≡ v.own
    pub own_seen : entries_of by seat v.seen ≡ v.own
    pub taken : EachEnded (IsSettled by list v.seen views) v.ended
    pub taken_seen : All (λ x. IsPrefix x.seen list) v.ended
    -- one seat gives out numbers, and the next is the number of the next seat of the table
    pub gives : 0 < v.limit → (seat ≡ giver) × (v.next ≡ length views) × (v.limit < 2 ^ 32)
    pub gives_none : v.limit ≡ 0 → v.next ≡ 0
    pub tagged : v.tag ≡ Some tag

  pub record KeepsTurns (s : State (Option V) (View E T)) : Type 0 where
    pub drawn : ℕ
    pub serving : ℕ
    -- the seat that has the turn, the seat that drew each ticket, and the seat that gives out numbers
    pub turn : maybe.Option ℕ
    pub owner : ℕ → ℕ
    pub giver : ℕ
    -- the value's entries between turns, and in a turn those that it had at the turn's start
    pub list : List E
    pub tag : T
    pub words_are : s.words ≡ drawn % 2 ^ 64 ∷ serving % 2 ^ 64 ∷ []
    pub slot : IsSlot list tag turn s.homes
    -- fewer than 2^63 tickets wait, so two that wait never have one number modulo 2^64
    pub few : length s.views < 2 ^ 63
    pub counted : serving + sum_by (λ v. tickets v.stage) s.views ≡ drawn
    pub turn_owns : (i : ℕ) → turn ≡ some i → (owner serving ≡ i) × (serving < drawn) × (i < length s.views)
    pub holder_saw : (i : ℕ) (v : View E T) → get_elem? s.views i ≡ some v → turn ≡ some i → v.seen ≡ list
    pub each_stage : (i : ℕ) (v : View E T) → get_elem? s.views i ≡ some v → FitsTickets drawn serving turn owner i v.stage
    pub each_view : (i : ℕ) (v : View E T) → get_elem? s.views i ≡ some v → IsSome v.tag → Knows list tag s.views giver i v
    -- a number that was not given out has no entries
    pub others : (n : ℕ) → length s.views ≤ n → entries_of by n list ≡ []
