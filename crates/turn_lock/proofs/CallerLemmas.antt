-- For callers: what a turn adds, and the numbers that a joined seat has taken in.
use Rattle.std.proofs.Common.{◌≡◌, ℕ, suc, List, [], ◌∷◌, ◌++◌, map, Contains, sym, subst, ap, ◌∙◌, refl, arith, append_assoc}
use Rattle.std.proofs.lemmas.List.{append-nil, map-append}
use Rattle.std.proofs.lemmas.List.Elements.{All-nil, All-cons, All-append, Contains-append_left, Contains-append_right}
use Rattle.turn_lock.specs.declared.view.Ended.{Ended}
use Rattle.turn_lock.specs.Entries.{AddsOnly}
use Rattle.turn_lock.specs.SeatView.{SeatView, joined_seat, HasEnded}

module _ {E : Type 0} (by : E → ℕ) (n : ℕ) where
  pub adds_none : (entries : List E) → AddsOnly by n entries entries
  adds_none entries = ([], sym (append-nil entries), All-nil (λ e. by e ≡ n))

  pub adds_one : (entries : List E) (e : E) → by e ≡ n → AddsOnly by n entries (entries ++ e ∷ [])
  adds_one entries e mine = (e ∷ [], refl, All-cons (λ x. by x ≡ n) e [] mine (All-nil (λ x. by x ≡ n)))

  pub adds_more : (first second third : List E) → AddsOnly by n first second → AddsOnly by n second third → AddsOnly by n first third
  adds_more first second third a b = (a.0 ++ b.0, b.1 ∙ (ap (λ l. l ++ b.0) a.1 ∙ append_assoc first a.0 b.0), All-append (λ e. by e ≡ n) a.0 b.0 a.2 b.2)

HasEnded-left : {E : Type 0} (n : ℕ) (xs ys : List (Ended E)) → HasEnded n xs → HasEnded n (xs ++ ys)
HasEnded-left n xs ys has = subst (λ l. Contains l n) (sym (map-append (λ x. x.number) xs ys)) (Contains-append_left (map (λ x. x.number) xs) (map (λ x. x.number) ys) n has)

HasEnded-right : {E : Type 0} (n : ℕ) (xs ys : List (Ended E)) → HasEnded n ys → HasEnded n (xs ++ ys)
HasEnded-right n xs ys has = subst (λ l. Contains l n) (sym (map-append (λ x. x.number) xs ys)) (Contains-append_right (map (λ x. x.number) xs) (map (λ x. x.number) ys) n has)

module _ {E T : Type 0} (seat other : SeatView E T) where
  -- a joined seat keeps the numbers that had ended, and has that of the other seat and those that had ended there
  pub HasEnded-joined : (n : ℕ) → HasEnded n seat.ended → HasEnded n (joined_seat seat other).ended
  HasEnded-joined n has = HasEnded-left n seat.ended (record { number = other.number; entries = other.own; seen = other.seen } ∷ other.ended) has

  pub HasEnded-joined_number : HasEnded other.number (joined_seat seat other).ended
  HasEnded-joined_number = HasEnded-right other.number seat.ended (record { number = other.number; entries = other.own; seen = other.seen } ∷ other.ended) (0, omega arith, refl)

  pub HasEnded-joined_other : (n : ℕ) → HasEnded n other.ended → HasEnded n (joined_seat seat other).ended
  HasEnded-joined_other n has = HasEnded-right n seat.ended (record { number = other.number; entries = other.own; seen = other.seen } ∷ other.ended) (let less = has.1 in (suc has.0, omega arith, has.2))
