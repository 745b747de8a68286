-- Who has an instance after a run.
use Rattle.std.proofs.Common.{◌≡◌, ℕ, ◌==◌, Bool, true, false, ◌&&◌, if◌then◌else◌, List, [], ◌∷◌, map, Option, Some, None, sym, refl, ap, ◌∙◌, subst, ⊎_elim, eq-eqb}
use Rattle.std.specs.Cmp.Derive.{both_true}
use Rattle.std.specs.Map.{lookup, set_value}
use Rattle.std.proofs.lemmas.Bool.{eqb-true}
use Rattle.clip_graph.specs.Plan.{Application}
use Rattle.frame_cache.proofs.CallerLemmas.{test, left_true, right_true}
use Rattle.inst_table.specs.declared.place.Place.{Place}
use Rattle.inst_table.specs.Places.{same_place}
use Rattle.inst_table.proofs.CallerLemmas.{same_places}
use Rattle.serve_machine.specs.declared.event.Event.{Event}
use Rattle.serve_machine.specs.declared.event.Event.TheVariants.{Hit, Claim, Enter, Leave, Evict, Publish, Abandon, Take, Deliver, Fail}
use Rattle.serve_machine.specs.Machine.{State, place_named, is_open, is_some_and, is_by, Machine, meets, allowed, change, replay}
use Rattle.serve_machine.specs.Law.{uses_of, TakeTurns, unused, out, back, worker_at, holder_of}
use Rattle.serve_machine.proofs.TruthLemmas.{held_some, open_none, some_same}

-- who has an instance after an event, or none where it is entered while it is out, or left by another than its holder
abbrev next_holder : ℕ → ℕ → Option ℕ → Event → Option (Option ℕ)
next_holder i j holder (Enter w a b) =
    if a == i && b == j then (if is_open holder then Some (Some w) else None) else Some holder
next_holder i j holder (Leave w a b) =
    if a == i && b == j then (if is_by w holder then Some None else None) else Some holder
next_holder i j holder e = Some holder

-- who has an instance after these events, or none where its Enter and Leave events do not take turns: an Enter comes
-- first, and each Leave is by the worker of the Enter before it
abbrev holder_after : ℕ → ℕ → Option (Option ℕ) → List Event → Option (Option ℕ)
holder_after i j None es = None
holder_after i j (Some holder) [] = Some holder
holder_after i j (Some holder) (e ∷ es) = holder_after i j (next_holder i j holder e) es

-- a value that is set
module _ {X : Type 0} where
  pub found_set : {K : Type 0} (t : K → Bool) (es : List (K × X)) (v x : X) → lookup t es ≡ Some v → lookup t (set_value t es x) ≡ Some x
  found_set t [] v x h = absurd (cc)
  found_set t (e ∷ es) v x h = ⊎_elim (λ (g : t e.0 ≡ true). rw g (rw g refl)) (λ (g : t e.0 ≡ false). rw g (rw g (found_set t es v x (rw g at h)))) (test (t e.0))

  pub other_set : (p q : Place) (es : List (Place × X)) (x : X) → same_place p q ≡ false → lookup (same_place p) (set_value (same_place q) es x) ≡ lookup (same_place p) es
  other_set p q [] x apart = refl
  other_set p q (e ∷ es) x apart = ⊎_elim
      (λ (h : same_place q e.0 ≡ true). let k : same_place p e.0 ≡ false = subst (λ r. same_place p r ≡ false) (same_places q e.0 h) apart in rw h (rw k refl))
      (λ (h : same_place q e.0 ≡ false). rw h (elim (same_place p e.0) as (λ b. (if b then Some e.1 else lookup (same_place p) (set_value (same_place q) es x)) ≡ (if b then Some e.1 else lookup (same_place p) es)) [ true ↦ refl | false ↦ other_set p q es x apart ])) (test (same_place q e.0))

module _ (plan : List Application) where
  -- another node or number is another place
  apart_named : (i j a b : ℕ) → (a == i && b == j) ≡ false → same_place (place_named plan i j) (place_named plan a b) ≡ false
  apart_named i j a b h = ⊎_elim
      (λ (e : same_place (place_named plan i j) (place_named plan a b) ≡ true). let same = same_places (place_named plan i j) (place_named plan a b) e in
      let yes' : (a == i && b == j) ≡ true = both_true (eq-eqb a i (sym (ap (λ (p : Place). p.node) same))) (eq-eqb b j (sym (ap (λ (p : Place). p.instance) same))) in
      let bad : true ≡ false = sym yes' ∙ h in absurd (cc))
      (λ (e : same_place (place_named plan i j) (place_named plan a b) ≡ false). e) (test (same_place (place_named plan i j) (place_named plan a b)))

  set_holder : (i j a b : ℕ) (places : List (Place × Option ℕ)) (x : Option ℕ) → (a == i && b == j) ≡ false
      → holder_of plan i j (set_value (same_place (place_named plan a b)) places x) ≡ holder_of plan i j places
  set_holder i j a b places x h = ap worker_at (other_set (place_named plan i j) (place_named plan a b) places x (apart_named i j a b h))

  entered : (i j w a b : ℕ) (places : List (Place × Option ℕ)) → is_some_and is_open (lookup (same_place (place_named plan a b)) places) ≡ true
      → next_holder i j (holder_of plan i j places) (Enter w a b) ≡ Some (holder_of plan i j (set_value (same_place (place_named plan a b)) places (Some w)))
  entered i j w a b places free = ⊎_elim
      (λ (e : (a == i && b == j) ≡ true). rw e (here (eqb-true a i (left_true _ _ e)) (eqb-true b j (right_true _ _ e))))
      (λ (e : (a == i && b == j) ≡ false). rw e (ap Some (sym (set_holder i j a b places (Some w) e)))) (test (a == i && b == j))
    where
      here : a ≡ i → b ≡ j → (if is_open (holder_of plan i j places) then Some (Some w) else None) ≡ Some (holder_of plan i j (set_value (same_place (place_named plan a b)) places (Some w)))
      here p q =
          let was : lookup (same_place (place_named plan a b)) places ≡ Some None = open_none (lookup (same_place (place_named plan a b)) places) free in
          let was' : holder_of plan i j places ≡ None = subst (λ (x : ℕ × ℕ). holder_of plan x.0 x.1 places ≡ None) (λ z. (p z, q z)) (ap worker_at was) in
          let now : holder_of plan a b (set_value (same_place (place_named plan a b)) places (Some w)) ≡ Some w = ap worker_at (found_set (same_place (place_named plan a b)) places None (Some w) was) in
          let now' = subst (λ (x : ℕ × ℕ). holder_of plan x.0 x.1 (set_value (same_place (place_named plan a b)) places (Some w)) ≡ Some w) (λ z. (p z, q z)) now in
          ap (λ h. if is_open h then Some (Some w) else None) was' ∙ ap Some (sym now')

  given_back : (i j w a b : ℕ) (places : List (Place × Option ℕ)) → is_some_and (is_by w) (lookup (same_place (place_named plan a b)) places) ≡ true
      → next_holder i j (holder_of plan i j places) (Leave w a b) ≡ Some (holder_of plan i j (set_value (same_place (place_named plan a b)) places None))
  given_back i j w a b places held = ⊎_elim
      (λ (e : (a == i && b == j) ≡ true). rw e (here (eqb-true a i (left_true _ _ e)) (eqb-true b j (right_true _ _ e))))
      (λ (e : (a == i && b == j) ≡ false). rw e (ap Some (sym (set_holder i j a b places None e)))) (test (a == i && b == j))
    where
      here : a ≡ i → b ≡ j → (if is_by w (holder_of plan i j places) then Some None else None) ≡ Some (holder_of plan i j (set_value (same_place (place_named plan a b)) places None))
      here p q =
          let was : lookup (same_place (place_named plan a b)) places ≡ Some (Some w) = held_some w (lookup (same_place (place_named plan a b)) places) held in
          let was' : holder_of plan i j places ≡ Some w = subst (λ (x : ℕ × ℕ). holder_of plan x.0 x.1 places ≡ Some w) (λ z. (p z, q z)) (ap worker_at was) in
          let now : holder_of plan a b (set_value (same_place (place_named plan a b)) places None) ≡ None = ap worker_at (found_set (same_place (place_named plan a b)) places (Some w) None was) in
          let now' = subst (λ (x : ℕ × ℕ). holder_of plan x.0 x.1 (set_value (same_place (place_named plan a b)) places None) ≡ None) (λ z. (p z, q z)) now in
          let mine : is_by w (holder_of plan i j places) ≡ true = ap (is_by w) was' ∙ eq-eqb w w refl in
          rw mine (ap Some (sym now'))

  pub none_at_start : (i j : ℕ) (places : List Place) → holder_of plan i j (map (λ p. (p, None)) places) ≡ None
  none_at_start i j [] = refl
  none_at_start i j (p ∷ places) = let ih = none_at_start i j places in
      elim (same_place (place_named plan i j) p) as (λ b. worker_at (if b then Some None else lookup (same_place (place_named plan i j)) (map (λ q. (q, None)) places)) ≡ None) [ true ↦ refl | false ↦ ih ]

module _ {F : Type 0} (m : Machine F) where
  holds_step : (i j : ℕ) (s : State F) (e : Event) → meets m s e ≡ true → next_holder i j (holder_of m.fixed.plan i j s.places) e ≡ Some (holder_of m.fixed.plan i j (change m s e).places)
  holds_step i j s (Enter w a b) ok = entered m.fixed.plan i j w a b s.places (right_true _ _ (left_true _ _ ok))
  holds_step i j s (Leave w a b) ok = given_back m.fixed.plan i j w a b s.places ok
  holds_step i j s (Hit w k) ok = refl
  holds_step i j s (Claim w k) ok = refl
  holds_step i j s (Evict w k) ok = refl
  holds_step i j s (Publish w k) ok = refl
  holds_step i j s (Abandon w k) ok = refl
  holds_step i j s (Take w n) ok = refl
  holds_step i j s (Deliver w n) ok = refl
  holds_step i j s (Fail w why) ok = refl

  holder_law : (i j : ℕ) (events : List Event) (s t : State F) → replay m s events ≡ Some t
      → holder_after i j (Some (holder_of m.fixed.plan i j s.places)) events ≡ Some (holder_of m.fixed.plan i j t.places)
  holder_law i j [] s t ran = ap (λ (z : State F). Some (holder_of m.fixed.plan i j z.places)) (some_same ran)
  holder_law i j (e ∷ es) s t ran = ⊎_elim
      (λ (ok : allowed m s e ≡ true). ap (λ h. holder_after i j h es) (holds_step i j s e (right_true _ _ (right_true _ _ ok))) ∙ holder_law i j es (change m s e) t (rw ok at ran))
      (λ (bad : allowed m s e ≡ false). let none : None ≡ Some t = rw bad at ran in absurd (cc)) (test (allowed m s e))

-- What the turns say, where the instance is with nobody or with a worker.
abbrev From : ℕ → ℕ → Option ℕ → List Event → Option ℕ → Type 0
From i j None us holder = TakeTurns i j us holder
From i j (Some w) us holder = TakeTurns i j (Enter w i j ∷ us) holder

module _ (i j : ℕ) where
  ended : (before holder : Option ℕ) → before ≡ holder → From i j before [] holder
  ended None holder h = subst (TakeTurns i j []) h unused
  ended (Some w) holder h = subst (TakeTurns i j (Enter w i j ∷ [])) h out

  used : (w a b : ℕ) → (a == i && b == j) ≡ true → Enter w i j ≡ Enter w a b
  used w a b h = let p = eqb-true a i (left_true _ _ h) in let q = eqb-true b j (right_true _ _ h) in λ z. Enter w (sym p z) (sym q z)

  given : (v w a b : ℕ) → (a == i && b == j) ≡ true → v ≡ w → Leave v i j ≡ Leave w a b
  given v w a b h s = let p = eqb-true a i (left_true _ _ h) in let q = eqb-true b j (right_true _ _ h) in λ z. Leave (s z) (sym p z) (sym q z)

  taken : (w a b : ℕ) (before holder : Option ℕ) (es : List Event) → (a == i && b == j) ≡ true → holder_after i j (if is_open before then Some (Some w) else None) es ≡ Some holder
      → (holder_after i j (Some (Some w)) es ≡ Some holder → TakeTurns i j (Enter w i j ∷ uses_of i j es) holder) → From i j before (Enter w a b ∷ uses_of i j es) holder
  taken w a b None holder es e h more = subst (λ x. TakeTurns i j (x ∷ uses_of i j es) holder) (used w a b e) (more h)
  taken w a b (Some v) holder es e h more = absurd (cc)

  returned : (w a b : ℕ) (before holder : Option ℕ) (es : List Event) → (a == i && b == j) ≡ true → holder_after i j (if is_by w before then Some None else None) es ≡ Some holder
      → (holder_after i j (Some None) es ≡ Some holder → TakeTurns i j (uses_of i j es) holder) → From i j before (Leave w a b ∷ uses_of i j es) holder
  returned w a b None holder es e h more = absurd (cc)
  returned w a b (Some v) holder es e h more = ⊎_elim
      (λ (f : (v == w) ≡ true). let h' : holder_after i j (Some None) es ≡ Some holder = rw f at h in
      subst (λ x. TakeTurns i j (Enter v i j ∷ x ∷ uses_of i j es) holder) (given v w a b e (eqb-true v w f)) (back (more h')))
      (λ (f : (v == w) ≡ false). let bad : None ≡ Some holder = rw f at h in absurd (cc)) (test (v == w))

  turns : (es : List Event) (before holder : Option ℕ) → holder_after i j (Some before) es ≡ Some holder → From i j before (uses_of i j es) holder
  turns [] before holder h = ended before holder (some_same h)
  turns (Enter w a b ∷ es) before holder h =
      let on = λ (b' : Bool). holder_after i j (if b' then (if is_open before then Some (Some w) else None) else Some before) es ≡ Some holder in ⊎_elim
      (λ (e : (a == i && b == j) ≡ true). rw e (taken w a b before holder es e (subst on e h) (turns es (Some w) holder)))
      (λ (e : (a == i && b == j) ≡ false). rw e (turns es before holder (subst on e h))) (test (a == i && b == j))
  turns (Leave w a b ∷ es) before holder h =
      let on = λ (b' : Bool). holder_after i j (if b' then (if is_by w before then Some None else None) else Some before) es ≡ Some holder in ⊎_elim
      (λ (e : (a == i && b == j) ≡ true). rw e (returned w a b before holder es e (subst on e h) (turns es None holder)))
      (λ (e : (a == i && b == j) ≡ false). rw e (turns es before holder (subst on e h))) (test (a == i && b == j))
  turns (Hit w k ∷ es) before holder h = turns es before holder h
  turns (Claim w k ∷ es) before holder h = turns es before holder h
  turns (Evict w k ∷ es) before holder h = turns es before holder h
  turns (Publish w k ∷ es) before holder h = turns es before holder h
  turns (Abandon w k ∷ es) before holder h = turns es before holder h
  turns (Take w n ∷ es) before holder h = turns es before holder h
  turns (Deliver w n ∷ es) before holder h = turns es before holder h
  turns (Fail w why ∷ es) before holder h = turns es before holder h

-- from a start where no instance is out
pub exclusive_law : {F : Type 0} → (m : Machine F) (i j : ℕ) (events : List Event) (s t : State F) → holder_of m.fixed.plan i j s.places ≡ None → replay m s events ≡ Some t
    → TakeTurns i j (uses_of i j events) (holder_of m.fixed.plan i j t.places)
exclusive_law m i j events s t free ran = turns i j events None (holder_of m.fixed.plan i j t.places) (ap (λ h. holder_after i j (Some h) events) (sym free) ∙ holder_law m i j events s t ran)
