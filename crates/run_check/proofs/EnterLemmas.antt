-- What an Enter and a publication need.
use Rattle.std.proofs.Common.{◌≡◌, ℕ, zero, suc, ◌+◌, ◌<◌, Bool, true, false, not, ◌&&◌, ◌||◌, cond, List, [], ◌∷◌, length, drop, Option, Some, None, Result, Ok, Err, IfOk, refl, sym, ap, ◌∙◌, subst, ⊎_elim}
use Rattle.std.specs.Prelude.{◌==◌, is_some, is_none, nat_lt, slice_get, if◌then◌else◌}
use Rattle.std.specs.Map.{lookup, set_value}
use Rattle.std.proofs.lemmas.Bool.{eqb-true, ltb-true, not-true}
use Rattle.std.proofs.lemmas.Option.{slice_get_within, get_or_from_slice_get}
use Rattle.fv_plane.specs.declared.key.Key.{Key}
use Rattle.clip_graph.specs.Plan.{application_at}
use Rattle.frame_cache.specs.Cached.{same_key, at_key, has_key}
use Rattle.frame_cache.proofs.CallerLemmas.{left_true, right_true, key_itself}
use Rattle.inst_table.specs.declared.place.Place.{Place}
use Rattle.inst_table.specs.Places.{same_place}
use Rattle.serve_machine.specs.Events.{mode_at, instance_of}
use Rattle.serve_machine.specs.Law.{worker_at}
use Rattle.serve_machine.specs.Machine.{Machine, State, claims_at, holds_nothing, got_at, gathered, is_by, is_key, is_open, is_some_and, place_named}
use Rattle.serve_machine.proofs.TruthLemmas.{by_there}
use Rattle.run_check.specs.declared.tracker.Tracker.{Tracker}
use Rattle.run_check.specs.Mirrors.{Mirrors}
use Rattle.run_check.proofs.MirrorLemmas.{got_turn}
use Rattle.run_check.proofs.TallyLemmas.{test}

-- CLAIMS

has_more : (k : Key) (c : Key × ℕ) (cs : List (Key × ℕ)) → has_key k cs ≡ true → has_key k (c ∷ cs) ≡ true
has_more k c cs h = ⊎_elim (λ (e : same_key k c.0 ≡ true). rw e refl) (λ (e : same_key k c.0 ≡ false). rw e h) (test (same_key k c.0))

-- a claim on a frame of a node is one on a key of it
record ClaimAt (i : ℕ) (cs : List (Key × ℕ)) : Type 0 where
  key : Key
  there : has_key key cs ≡ true
  node : key.node ≡ i

claim_at : (w i : ℕ) (cs : List (Key × ℕ)) → claims_at w i cs ≡ true → ClaimAt i cs
claim_at w i [] h = absurd (cc)
claim_at w i (c ∷ cs) h = ⊎_elim
    (λ (here : (c.1 == w && (c.0).node == i) ≡ true). record { key = c.0; there = rw (key_itself c.0) refl; node = eqb-true (c.0).node i (right_true (c.1 == w) ((c.0).node == i) here) })
    (λ (later : (c.1 == w && (c.0).node == i) ≡ false).
    let one = claim_at w i cs (rw later at h) in
    record { key = one.key; there = has_more one.key c cs one.there; node = one.node }) (test (c.1 == w && (c.0).node == i))

-- PLACES

-- a place stays when another value is put
pub present_set : (t u : Place → Bool) (es : List (Place × Option ℕ)) (x : Option ℕ) → is_some (lookup t (set_value u es x)) ≡ is_some (lookup t es)
present_set t u [] x = refl
present_set t u (e ∷ es) x = ⊎_elim
    (λ (here : u e.0 ≡ true). rw here (both (t e.0) x e.1 (lookup t es)))
    (λ (there : u e.0 ≡ false). rw there (rest (t e.0) e.1 (lookup t (set_value u es x)) (lookup t es) (present_set t u es x))) (test (u e.0))
  where
    both : (b : Bool) (x y : Option ℕ) (o : Option (Option ℕ)) → is_some (if b then Some x else o) ≡ is_some (if b then Some y else o)
    both true x y o = refl
    both false x y o = refl

    rest : (b : Bool) (y : Option ℕ) (o p : Option (Option ℕ)) → is_some o ≡ is_some p → is_some (if b then Some y else o) ≡ is_some (if b then Some y else p)
    rest true y o p h = refl
    rest false y o p h = h

-- a place that is there is free where none has it
pub enter_test : (x : Bool) (o : Option (Option ℕ)) (r : Bool) → (x ≡ true → is_some o ≡ true) → (x && is_none (worker_at o) && r) ≡ (x && is_some_and is_open o && r)
enter_test false o r there = refl
enter_test true None r there = let bad : false ≡ true = there refl in absurd (cc)
enter_test true (Some None) r there = refl
enter_test true (Some (Some w)) r there = refl

module _ (m : Machine (Unit {0})) (s : State (Unit {0})) (t : Tracker) (is : Mirrors t m s) where
  -- the place that a worker means is there, where it may enter the node
  pub meant_there : (w i j : ℕ) → w < m.fixed.workers → (claims_at w i s.claims && holds_nothing w s.places && not (mode_at m.fixed.plan i == 1) && j == instance_of m.fixed.plan w i) ≡ true
      → is_some (lookup (same_place (place_named m.fixed.plan i j)) s.places) ≡ true
  meant_there w i j less h =
      let plan = m.fixed.plan in
      let abc = left_true (claims_at w i s.claims && holds_nothing w s.places && not (mode_at plan i == 1)) (j == instance_of plan w i) h in
      let named : j ≡ instance_of plan w i = eqb-true j (instance_of plan w i) (right_true (claims_at w i s.claims && holds_nothing w s.places && not (mode_at plan i == 1)) (j == instance_of plan w i) h) in
      let other = not-true (mode_at plan i == 1) (right_true (claims_at w i s.claims && holds_nothing w s.places) (not (mode_at plan i == 1)) abc) in
      let mine = left_true (claims_at w i s.claims) (holds_nothing w s.places) (left_true (claims_at w i s.claims && holds_nothing w s.places) (not (mode_at plan i == 1)) abc) in
      let one = claim_at w i s.claims mine in
      let k : Key = one.key in
      let inside : k.node < length plan = ltb-true k.node (length plan) (left_true (nat_lt k.node (length plan)) (nat_lt k.n (application_at plan k.node).info.frames) (is.claimed k one.there)) in
      let inside' : i < length plan = subst (λ n. n < length plan) one.node inside in
      subst (λ n. is_some (lookup (same_place (place_named plan i n)) s.places) ≡ true) (sym named) (is.instances i w inside' less other)

pub cond_or : (a b : Bool) → cond a true b ≡ (a || b)
cond_or true b = refl
cond_or false b = refl

pub and_true : (a : Bool) → (a && true) ≡ a
and_true true = refl
and_true false = refl

-- INPUTS

-- one more input
pub got_input : (w : ℕ) (keys : List Key) (i : ℕ) (k : Key) (got : List ((ℕ × Key) × Unit {0})) → slice_get keys i ≡ Some k
    → is_some (gathered w (drop i keys) got) ≡ (is_some (got_at w k got) && is_some (gathered w (drop (i + 1) keys) got))
got_input w keys i k got at =
    got_turn w keys i k got (slice_get_within keys i k at) ∙ ap (λ (z : Key). is_some (got_at w z got) && is_some (gathered w (drop (i + 1) keys) got)) (get_or_from_slice_get keys i k k at)

-- no input is left
pub none_left : (w : ℕ) (keys : List Key) (i : ℕ) (got : List ((ℕ × Key) × Unit {0})) → slice_get keys i ≡ None → is_some (gathered w (drop i keys) got) ≡ true
none_left w [] zero got none = refl
none_left w [] (suc i) got none = refl
none_left w (j ∷ js) zero got none = absurd (cc)
none_left w (j ∷ js) (suc i) got none = none_left w js i got none

-- PUBLICATIONS

pub unready : (x c d : Bool) → (x && d) ≡ false → (x && c && d) ≡ false
unready false c d h = refl
unready true c true h = absurd (cc)
unready true true false h = refl
unready true false false h = refl

pub ready : (x c d : Bool) → (x && d) ≡ true → (x && c && d) ≡ c
ready false c d h = absurd (cc)
ready true c true h = and_true c
ready true c false h = absurd (cc)

-- a worker that has a claim has it on a frame of the plan
pub ready_key : (m : Machine (Unit {0})) (s : State (Unit {0})) (t : Tracker) (w : ℕ) (k : Key) (b d : Bool) → Mirrors t m s → (is_by w (at_key k s.claims) && b && d) ≡ true → is_key m.fixed.plan k ≡ true
ready_key m s t w k b d is h =
    let mine = by_there w (at_key k s.claims) (left_true (is_by w (at_key k s.claims)) b (left_true (is_by w (at_key k s.claims) && b) d h)) in
    is.claimed k (ap is_some mine)

pub if_ok_map : {T E : Type 0} {P Q : T → Type 0} (r : Result T E) → IfOk r P → ((x : T) → P x → Q x) → IfOk r Q
if_ok_map (Ok x) p f = f x p
if_ok_map (Err e) p f = tt
