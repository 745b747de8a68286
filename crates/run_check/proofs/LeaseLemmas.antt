-- Instances that are lent and given back.
use Rattle.std.proofs.Common.{◌≡◌, ℕ, ◌+◌, ◌-◌, Bool, true, false, not, ◌&&◌, cond, List, [], ◌∷◌, Option, Some, None, refl, sym, ap, ◌∙◌, subst, ⊎_elim, arith}
use Rattle.std.specs.Prelude.{◌==◌, if◌then◌else◌}
use Rattle.std.specs.List.{list_all}
use Rattle.std.specs.HashMap.{get}
use Rattle.std.specs.Map.{lookup, set_value}
use Rattle.std.proofs.lemmas.Bool.{ne_eqb}
use Rattle.inst_table.specs.declared.place.Place.{Place}
use Rattle.inst_table.specs.Places.{same_place}
use Rattle.inst_table.proofs.CallerLemmas.{same_places, place_itself}
use Rattle.serve_machine.specs.Law.{worker_at}
use Rattle.serve_machine.specs.Machine.{is_open, is_by, holds_nothing}
use Rattle.serve_machine.proofs.HolderLemmas.{found_set, other_set}
use Rattle.run_check.specs.declared.tally.Seat.{Seat}
use Rattle.run_check.specs.declared.leases.Leases.{Leases}
use Rattle.run_check.specs.Tallies.{same_seat, count_at}
use Rattle.run_check.specs.Claims.{number_by}
use Rattle.run_check.specs.Leases.{AreLeases, free}
use Rattle.run_check.proofs.TallyLemmas.{test}

-- none passes exactly where the number is 0
all_none : {X : Type 0} (p : X → Bool) (xs : List X) → list_all (λ x. not (p x)) xs ≡ (number_by p xs == 0)
all_none p [] = refl
all_none p (x ∷ xs) = ⊎_elim
    (λ (e : p x ≡ true). rw e (sym (ne_eqb (1 + number_by p xs) 0 (λ q. omega arith))))
    (λ (e : p x ≡ false). let n : 0 + number_by p xs ≡ number_by p xs = omega arith in rw e (rw n (all_none p xs))) (test (p x))

all_pass : {X : Type 0} (p : X → Bool) (xs : List X) → list_all p xs ≡ (number_by (λ x. not (p x)) xs == 0)
all_pass p [] = refl
all_pass p (x ∷ xs) = ⊎_elim
    (λ (e : p x ≡ true). let n : 0 + number_by (λ y. not (p y)) xs ≡ number_by (λ y. not (p y)) xs = omega arith in rw e (rw n (all_pass p xs)))
    (λ (e : p x ≡ false). rw e (sym (ne_eqb (1 + number_by (λ y. not (p y)) xs) 0 (λ q. omega arith)))) (test (p x))

-- a value is put in the place of another
number_set : (p : Option ℕ → Bool) (t : Place → Bool) (es : List (Place × Option ℕ)) (v x : Option ℕ) → lookup t es ≡ Some v
    → number_by (λ (e : Place × Option ℕ). p e.1) (set_value t es x) + cond (p v) 1 0 ≡ number_by (λ (e : Place × Option ℕ). p e.1) es + cond (p x) 1 0
number_set p t [] v x h = absurd (cc)
number_set p t (e ∷ es) v x h = ⊎_elim
    (λ (here : t e.0 ≡ true).
    let is : Some e.1 ≡ Some v = rw here at h in
    let same : e.1 ≡ v = cc in
    let same' : p e.1 ≡ p v = ap p same in
    rw here (rw same' (omega arith)))
    (λ (there : t e.0 ≡ false). let ih = number_set p t es v x (rw there at h) in rw there (omega arith)) (test (t e.0))

none_free : (p : Option ℕ → Bool) → p None ≡ false → (ps : List Place) → number_by (λ (e : Place × Option ℕ). p e.1) (free ps) ≡ 0
none_free p never [] = refl
none_free p never (q ∷ ps) = let ih = none_free p never ps in rw never (omega arith)

holder_free : (p : Place) (ps : List Place) → worker_at (lookup (same_place p) (free ps)) ≡ None
holder_free p [] = refl
holder_free p (q ∷ ps) = ⊎_elim (λ (e : same_place p q ≡ true). rw e refl) (λ (e : same_place p q ≡ false). rw e (holder_free p ps)) (test (same_place p q))

turned : (p q : Place) → same_place p q ≡ false → same_place q p ≡ false
turned p q h = ⊎_elim
    (λ (e : same_place q p ≡ true). let yes : same_place p q ≡ true = subst (λ z. same_place p z ≡ true) (sym (same_places q p e)) (place_itself p) in absurd (let no : ⊥ = cc in no))
    (λ (e : same_place q p ≡ false). e) (test (same_place q p))

-- who has a place after a change
holder_set : (p q : Place) (es : List (Place × Option ℕ)) (v x : Option ℕ) → lookup (same_place p) es ≡ Some v
    → cond (same_place p q) x (worker_at (lookup (same_place q) es)) ≡ worker_at (lookup (same_place q) (set_value (same_place p) es x))
holder_set p q es v x h = ⊎_elim
    (λ (e : same_place p q ≡ true). rw e (subst (λ z. x ≡ worker_at (lookup (same_place z) (set_value (same_place p) es x))) (same_places p q e) (sym (ap worker_at (found_set (same_place p) es v x h)))))
    (λ (e : same_place p q ≡ false). rw e (ap worker_at (sym (other_set q p es x (turned p q e))))) (test (same_place p q))

by_alone : (w v : ℕ) (x : ℕ) (f : ℕ → ℕ) → (if same_seat (record { worker = w; node = 0 }) (record { worker = v; node = 0 }) then f x else x) ≡ cond (w == v) (f x) x
by_alone w v x f = go (w == v)
  where
    go : (b : Bool) → (if b && 0 == 0 then f x else x) ≡ cond b (f x) x
    go true = refl
    go false = refl

up : (b : Bool) (x : ℕ) → cond b (x + 1) x ≡ x + cond b 1 0
up true x = refl
up false x = omega arith

down : (b : Bool) (x : ℕ) → cond b (x - 1) x ≡ x - cond b 1 0
down true x = refl
down false x = omega arith

module _ (old new : Leases) (places : List (Place × Option ℕ)) (p : Place) (w : ℕ) (before : AreLeases old places) where
  pub lent : lookup (same_place p) places ≡ Some None
      → ((q : Place) → get same_place new.out q ≡ cond (same_place p q) (Some w) (get same_place old.out q))
      → ((q : Seat) → count_at new.held q ≡ (if same_seat (record { worker = w; node = 0 }) q then count_at old.held q + 1 else count_at old.held q))
      → new.total ≡ old.total + 1 → AreLeases new (set_value (same_place p) places (Some w))
  lent is out held total = record {
    out = λ q. out q ∙ ap (cond (same_place p q) (Some w)) (before.out q) ∙ holder_set p q places None (Some w) is;
    held = λ v.
        let all = number_set (is_by v) (same_place p) places None (Some w) is in
        let had = before.held v in
        held (record { worker = v; node = 0 }) ∙ by_alone w v (count_at old.held (record { worker = v; node = 0 })) (λ n. n + 1) ∙ up (w == v) (count_at old.held (record { worker = v; node = 0 })) ∙ ap (λ n. n + cond (w == v) 1 0) had ∙ omega arith;
    total = (let all = number_set (λ o. not (is_open o)) (same_place p) places None (Some w) is in let had = before.total in omega arith);
  }

  pub back : lookup (same_place p) places ≡ Some (Some w)
      → ((q : Place) → get same_place new.out q ≡ cond (same_place p q) None (get same_place old.out q))
      → ((q : Seat) → count_at new.held q ≡ (if same_seat (record { worker = w; node = 0 }) q then count_at old.held q - 1 else count_at old.held q))
      → new.total ≡ old.total - 1 → AreLeases new (set_value (same_place p) places None)
  back is out held total = record {
    out = λ q. out q ∙ ap (cond (same_place p q) None) (before.out q) ∙ holder_set p q places (Some w) None is;
    held = λ v.
        let all = number_set (is_by v) (same_place p) places (Some w) None is in
        let had = before.held v in
        held (record { worker = v; node = 0 }) ∙ by_alone w v (count_at old.held (record { worker = v; node = 0 })) (λ n. n - 1) ∙ down (w == v) (count_at old.held (record { worker = v; node = 0 })) ∙ ap (λ n. n - cond (w == v) 1 0) had ∙ omega arith;
    total = (let all = number_set (λ o. not (is_open o)) (same_place p) places (Some w) None is in let had = before.total in omega arith);
  }

module _ (l : Leases) (places : List (Place × Option ℕ)) (are : AreLeases l places) where
  pub nothing_test : (w : ℕ) → (count_at l.held (record { worker = w; node = 0 }) == 0) ≡ holds_nothing w places
  nothing_test w = ap (λ n. n == 0) (are.held w) ∙ sym (all_none (λ (e : Place × Option ℕ). is_by w e.1) places)

  pub empty_test : (l.total == 0) ≡ list_all (λ (e : Place × Option ℕ). is_open e.1) places
  empty_test = ap (λ n. n == 0) are.total ∙ sym (all_pass (λ (e : Place × Option ℕ). is_open e.1) places)

pub none_lent : (l : Leases) (ps : List Place) → ((p : Place) → get same_place l.out p ≡ None) → ((q : Seat) → count_at l.held q ≡ 0) → l.total ≡ 0 → AreLeases l (free ps)
none_lent l ps out held total = record {
  out = λ p. out p ∙ sym (holder_free p ps);
  held = λ w. held (record { worker = w; node = 0 }) ∙ sym (none_free (is_by w) refl ps);
  total = total ∙ sym (none_free (λ o. not (is_open o)) refl ps);
}
