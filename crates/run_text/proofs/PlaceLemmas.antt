-- All instances that a worker may name are there when a window begins.
use Rattle.std.proofs.Common.{◌≡◌, ℕ, zero, suc, ◌+◌, ◌<◌, ◌≤◌, true, false, List, [], ◌∷◌, ◌++◌, length, map, Option, Some, None, refl, sym, subst, ⊎_elim, arith, eq-eqb}
use Rattle.std.specs.Prelude.{◌==◌}
use Rattle.std.specs.List.{flat_map, range_with_len}
use Rattle.std.specs.Map.{lookup}
use Rattle.std.proofs.lemmas.Bool.{eqb-true}
use Rattle.clip_term.specs.Filters.{IsMode}
use Rattle.clip_graph.specs.Plan.{Application, IsPlan}
use Rattle.frame_cache.proofs.CallerLemmas.{test}
use Rattle.inst_table.specs.declared.place.Place.{Place}
use Rattle.inst_table.specs.Places.{same_place, own_place}
use Rattle.inst_table.proofs.CallerLemmas.{place_itself}
use Rattle.serve_machine.specs.Events.{mode_at, instance_of}
use Rattle.serve_machine.specs.Machine.{place_named}
use Rattle.run_text.specs.Journal.{places_at, places}

abbrev pub free : List Place → List (Place × Option ℕ)
free ps = map (λ p. (p, None)) ps

-- the place is there, and free
abbrev pub IsAmong : Place → List Place → Type 0
IsAmong p ps = lookup (same_place p) (free ps) ≡ Some None

among_left : (p : Place) (ps qs : List Place) → IsAmong p ps → IsAmong p (ps ++ qs)
among_left p [] qs h = absurd (cc)
among_left p (q ∷ ps) qs h = ⊎_elim
    (λ (e : same_place p q ≡ true). rw e refl)
    (λ (e : same_place p q ≡ false). rw e (among_left p ps qs (rw e at h))) (test (same_place p q))

among_right : (p : Place) (ps qs : List Place) → IsAmong p qs → IsAmong p (ps ++ qs)
among_right p [] qs h = h
among_right p (q ∷ ps) qs h = ⊎_elim
    (λ (e : same_place p q ≡ true). rw e refl)
    (λ (e : same_place p q ≡ false). rw e (among_right p ps qs h)) (test (same_place p q))

-- a place that the function gives at a number of the range
among_range : (p : Place) (f : ℕ → List Place) (first n i : ℕ) → first ≤ i → i < first + n → IsAmong p (f i) → IsAmong p (flat_map f (range_with_len first n))
among_range p f first zero i low less h = absurd (omega arith)
among_range p f first (suc n) i low less h = ⊎_elim
    (λ (e : (first == i) ≡ true). among_left p (f first) _ (subst (λ j. IsAmong p (f j)) (sym (eqb-true first i e)) h))
    (λ (e : (first == i) ≡ false).
    let apart = apart_of first i e in
    among_right p (f first) _ (among_range p f (first + 1) n i (omega arith) (omega arith) h)) (test (first == i))
  where
    apart_of : (a b : ℕ) → (a == b) ≡ false → a ≡ b → ⊥
    apart_of a b e is = let yes = eq-eqb a b is in let no : ⊥ = cc in no

among_own : (i w first n : ℕ) → first ≤ w → w < first + n → IsAmong (own_place w i) (map (λ v. own_place v i) (range_with_len first n))
among_own i w first zero low less = absurd (omega arith)
among_own i w first (suc n) low less = ⊎_elim
    (λ (e : same_place (own_place w i) (own_place first i) ≡ true). rw e refl)
    (λ (e : same_place (own_place w i) (own_place first i) ≡ false).
    let apart = apart_of e in
    rw e (among_own i w (first + 1) n (omega arith) (omega arith))) (test (same_place (own_place w i) (own_place first i)))
  where
    apart_of : same_place (own_place w i) (own_place first i) ≡ false → w ≡ first → ⊥
    apart_of e is = let yes : same_place (own_place w i) (own_place first i) ≡ true = subst (λ v. same_place (own_place w i) (own_place v i) ≡ true) is (place_itself (own_place w i)) in let no : ⊥ = cc in no

module _ (plan : List Application) (root capacity workers : ℕ) where
  -- the place that a worker names at a node that has instances
  pub named_there : IsPlan plan → (i w : ℕ) → i < length plan → w < workers → (mode_at plan i == 1) ≡ false → IsAmong (place_named plan i (instance_of plan w i)) (places plan root capacity workers)
  named_there is_plan i w inside less other =
      among_range (place_named plan i (instance_of plan w i)) (places_at plan root capacity workers) 0 (length plan) i (omega arith) (omega arith)
      (⊎_elim
      (λ (three : (mode_at plan i == 3) ≡ true). rw three (rw (eq-eqb i i refl) refl))
      (λ (no_three : (mode_at plan i == 3) ≡ false).
      let two : (mode_at plan i == 2) ≡ true = mode_two (mode_at plan i) ((is_plan.each i inside).mode) other no_three in
      rw no_three (rw two (among_own i w 0 workers (omega arith) (omega arith)))) (test (mode_at plan i == 3)))
    where
      mode_two : (mode : ℕ) → IsMode mode → (mode == 1) ≡ false → (mode == 3) ≡ false → (mode == 2) ≡ true
      mode_two mode is one three =
          let least = is.least in
          let most = is.most in
          let a = apart one in
          let b = apart three in
          eq-eqb mode 2 (omega arith)
        where
          apart : {n : ℕ} → (mode == n) ≡ false → mode ≡ n → ⊥
          apart {n} e same = let yes = eq-eqb mode n same in let no : ⊥ = cc in no
