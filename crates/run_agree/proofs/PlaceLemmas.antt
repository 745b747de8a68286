-- A run with some instances is one with all that the modes ask for.
use Rattle.std.proofs.Common.{◌≡◌, ℕ, ◌<◌, Bool, true, false, not, ◌&&◌, List, [], ◌∷◌, ◌++◌, length, Option, Some, None, refl, sym, ap, ◌∙◌, subst, ⊎_elim, arith, eq-eqb}
use Rattle.std.specs.Prelude.{◌==◌, nat_lt, is_some}
use Rattle.std.specs.List.{AllByRecursion, list_any}
use Rattle.std.specs.Map.{lookup, set_value}
use Rattle.std.proofs.lemmas.Bool.{ltb-true, eqb-true, not-true}
use Rattle.fv_plane.specs.declared.key.Key.{Key}
use Rattle.clip_graph.specs.Plan.{Application, input_keys}
use Rattle.frame_cache.specs.Cached.{same_key, at_key, without_key, dropped_key}
use Rattle.frame_cache.proofs.CallerLemmas.{test, left_true, right_true}
use Rattle.inst_table.specs.declared.place.Place.{Place}
use Rattle.inst_table.specs.Places.{same_place}
use Rattle.inst_table.proofs.CallerLemmas.{same_places}
use Rattle.serve_machine.specs.declared.event.Event.{Event}
use Rattle.serve_machine.specs.declared.event.Event.TheVariants.{Hit, Claim, Enter, Leave, Evict, Publish, Abandon, Take, Deliver, Fail}
use Rattle.serve_machine.specs.Events.{worker_of, mode_at, instance_of}
use Rattle.serve_machine.specs.Holdings.{leases_of}
use Rattle.serve_machine.specs.Law.{start_of}
use Rattle.serve_machine.specs.Machine.{Machine, meets, allowed, change, replay, in_turn, State, place_named, claims_at, is_open, is_some_and, is_by, holds_nothing, is_key, is_running, gathered}
use Rattle.serve_machine.specs.Journals.{in_window}
use Rattle.serve_machine.proofs.HolderLemmas.{found_set, other_set}
use Rattle.serve_machine.proofs.WorkerLists.{lease_taken, lease_back, lease_other, no_lease, lease_none, few_none}
use Rattle.serve_machine.proofs.TruthLemmas.{some_same, open_none, held_some}
use Rattle.run_text.specs.Journal.{places, machine_of}
use Rattle.run_text.proofs.PlaceLemmas.{free, named_there}
use Rattle.run_agree.specs.Agrees.{PlacesServe}

-- WHAT IS FREE

-- each of these places that is found is free
found_free : (p : Place) (ps : List Place) (o : Option ℕ) → lookup (same_place p) (free ps) ≡ Some o → o ≡ None
found_free p [] o h = absurd (cc)
found_free p (q ∷ ps) o h = ⊎_elim
    (λ (e : same_place p q ≡ true). let is : Some None ≡ Some o = rw e at h in sym (some_same is))
    (λ (e : same_place p q ≡ false). found_free p ps o (rw e at h)) (test (same_place p q))

-- STEP BY STEP

module _ (m : Machine (Unit {0})) where
  abbrev plan : List Application
  plan = m.fixed.plan

  -- all that a worker names is in q, and q has what s has
  record Serves (s : State (Unit {0})) (q : List (Place × Option ℕ)) : Type 0 where
    keyed : AllByRecursion (λ (c : Key × ℕ). (c.0).node < length plan) s.claims
    lent : (p : Place) (w : ℕ) → lookup (same_place p) s.places ≡ Some (Some w) → lookup (same_place p) q ≡ Some (Some w)
    free : (i w : ℕ) → i < length plan → w < m.fixed.workers → (mode_at plan i == 1) ≡ false → lookup (same_place (place_named plan i (instance_of plan w i))) s.places ≡ Some None
        → lookup (same_place (place_named plan i (instance_of plan w i))) q ≡ Some None
    held : (w : ℕ) → length (leases_of w q) ≡ length (leases_of w s.places)

  holds_there : (s : State (Unit {0})) (q : List (Place × Option ℕ)) (w : ℕ) → Serves s q → holds_nothing w s.places ≡ true → holds_nothing w q ≡ true
  holds_there s q w v h =
      let none : length (leases_of w s.places) ≡ 0 = ap length (lease_none w s.places h) in
      let same = v.held w in
      no_lease w q (few_none (leases_of w q) (omega arith))

  -- claims are on nodes of the plan
  claimed_node : (w i : ℕ) (cs : List (Key × ℕ)) → AllByRecursion (λ (c : Key × ℕ). (c.0).node < length plan) cs → claims_at w i cs ≡ true → i < length plan
  claimed_node w i [] all h = absurd (cc)
  claimed_node w i (c ∷ cs) all h = ⊎_elim
      (λ (here : (c.1 == w && (c.0).node == i) ≡ true). subst (λ n. n < length plan) (eqb-true (c.0).node i (right_true (c.1 == w) ((c.0).node == i) here)) all.0)
      (λ (there : (c.1 == w && (c.0).node == i) ≡ false). claimed_node w i cs all.1 (rw there at h)) (test (c.1 == w && (c.0).node == i))

  keyed_push : (k : Key) (w : ℕ) (cs : List (Key × ℕ)) → AllByRecursion (λ (c : Key × ℕ). (c.0).node < length plan) cs → k.node < length plan → AllByRecursion (λ (c : Key × ℕ). (c.0).node < length plan) (cs ++ (k, w) ∷ [])
  keyed_push k w [] all less = (less, tt)
  keyed_push k w (c ∷ cs) all less = (all.0, keyed_push k w cs all.1 less)

  keyed_without : (k : Key) (cs : List (Key × ℕ)) → AllByRecursion (λ (c : Key × ℕ). (c.0).node < length plan) cs → AllByRecursion (λ (c : Key × ℕ). (c.0).node < length plan) (without_key k cs)
  keyed_without k [] all = tt
  keyed_without k (c ∷ cs) all = ⊎_elim
      (λ (e : same_key k c.0 ≡ true). rw e all.1)
      (λ (e : same_key k c.0 ≡ false). rw e (all.0, keyed_without k cs all.1)) (test (same_key k c.0))

  -- the places after an event
  abbrev places_after : List (Place × Option ℕ) → Event → List (Place × Option ℕ)
  places_after q (Enter w i j) = set_value (same_place (place_named plan i j)) q (Some w)
  places_after q (Leave w i j) = set_value (same_place (place_named plan i j)) q None
  places_after q (Hit w k) = q
  places_after q (Claim w k) = q
  places_after q (Evict w k) = q
  places_after q (Publish w k) = q
  places_after q (Abandon w k) = q
  places_after q (Take w n) = q
  places_after q (Deliver w n) = q
  places_after q (Fail w why) = q

  -- what is needed to enter
  record Enters (s : State (Unit {0})) (w i j : ℕ) : Type 0 where
    claims : claims_at w i s.claims ≡ true
    hands : holds_nothing w s.places ≡ true
    mode : (mode_at plan i == 1) ≡ false
    named : (j == instance_of plan w i) ≡ true
    open_there : lookup (same_place (place_named plan i j)) s.places ≡ Some None
    running : is_running s ≡ true

  enters : (s : State (Unit {0})) (w i j : ℕ) → meets m s (Enter w i j) ≡ true → Enters s w i j
  enters s w i j h =
      let running = right_true _ (is_running s) h in
      let a = left_true (claims_at w i s.claims && holds_nothing w s.places && not (mode_at plan i == 1) && j == instance_of plan w i && is_some_and is_open (lookup (same_place (place_named plan i j)) s.places)) (is_running s) h in
      let b = left_true (claims_at w i s.claims && holds_nothing w s.places && not (mode_at plan i == 1) && j == instance_of plan w i) (is_some_and is_open (lookup (same_place (place_named plan i j)) s.places)) a in
      let c = left_true (claims_at w i s.claims && holds_nothing w s.places && not (mode_at plan i == 1)) (j == instance_of plan w i) b in
      let d = left_true (claims_at w i s.claims && holds_nothing w s.places) (not (mode_at plan i == 1)) c in
      record {
        claims = left_true (claims_at w i s.claims) (holds_nothing w s.places) d;
        hands = right_true (claims_at w i s.claims) (holds_nothing w s.places) d;
        mode = not-true (mode_at plan i == 1) (right_true (claims_at w i s.claims && holds_nothing w s.places) (not (mode_at plan i == 1)) c);
        named = right_true (claims_at w i s.claims && holds_nothing w s.places && not (mode_at plan i == 1)) (j == instance_of plan w i) b;
        open_there = open_none (lookup (same_place (place_named plan i j)) s.places) (right_true (claims_at w i s.claims && holds_nothing w s.places && not (mode_at plan i == 1) && j == instance_of plan w i) (is_some_and is_open (lookup (same_place (place_named plan i j)) s.places)) a);
        running = running;
      }

  named_open : (s : State (Unit {0})) (q : List (Place × Option ℕ)) (w i j : ℕ) → w < m.fixed.workers → Serves s q → Enters s w i j → lookup (same_place (place_named plan i j)) q ≡ Some None
  named_open s q w i j less v e =
      let is : j ≡ instance_of plan w i = eqb-true j (instance_of plan w i) e.named in
      subst (λ n. lookup (same_place (place_named plan i n)) q ≡ Some None) (sym is)
      (v.free i w (claimed_node w i s.claims v.keyed e.claims) less e.mode (subst (λ n. lookup (same_place (place_named plan i n)) s.places ≡ Some None) is e.open_there))

  four : (a b b' c d : Bool) → (b ≡ true → b' ≡ true) → (a && b && c && d) ≡ true → (a && b' && c && d) ≡ true
  four a b b' c d so h =
      let abc = left_true (a && b && c) d h in
      let ab = left_true (a && b) c abc in
      rw (left_true a b ab, so (right_true a b ab), right_true (a && b) c abc, right_true (a && b && c) d h) refl

  -- what the event needs is there
  meets_there : (s : State (Unit {0})) (q : List (Place × Option ℕ)) (e : Event) → worker_of e < m.fixed.workers → Serves s q → meets m s e ≡ true → meets m (record s { places = q }) e ≡ true
  meets_there s q (Hit w k) less v h = h
  meets_there s q (Claim w k) less v h = h
  meets_there s q (Enter w i j) less v h =
      let e = enters s w i j h in
      rw (e.claims, holds_there s q w v e.hands, e.mode, e.named, named_open s q w i j less v e, e.running) refl
  meets_there s q (Leave w i j) less v h =
      let p = place_named plan i j in
      rw (v.lent p w (held_some w (lookup (same_place p) s.places) h)) (eq-eqb w w refl)
  meets_there s q (Evict w k) less v h =
      let a = list_any (λ (c : Key × ℕ). c.1 == w) s.claims in
      let b = holds_nothing w s.places in
      let c = length s.cache == m.fixed.capacity in
      let d = is_some_and (same_key k) (dropped_key m.fixed.capacity s.cache) in
      four a b (holds_nothing w q) c d (holds_there s q w v) h
  meets_there s q (Publish w k) less v h =
      let a = is_by w (at_key k s.claims) in
      let b = holds_nothing w s.places in
      let c = is_some (gathered w (input_keys plan k) s.got) in
      let d = nat_lt (length s.cache) m.fixed.capacity in
      four a b (holds_nothing w q) c d (holds_there s q w v) h
  meets_there s q (Abandon w k) less v h = h
  meets_there s q (Take w n) less v h = h
  meets_there s q (Deliver w n) less v h = h
  meets_there s q (Fail w why) less v h = h

  change_there : (s : State (Unit {0})) (q : List (Place × Option ℕ)) (e : Event) → change m (record s { places = q }) e ≡ record (change m s e) { places = places_after q e }
  change_there s q (Hit w k) = refl
  change_there s q (Claim w k) = refl
  change_there s q (Enter w i j) = refl
  change_there s q (Leave w i j) = refl
  change_there s q (Evict w k) = refl
  change_there s q (Publish w k) = refl
  change_there s q (Abandon w k) = refl
  change_there s q (Take w n) = refl
  change_there s q (Deliver w n) = refl
  change_there s q (Fail w why) = refl

  by_same : (w v : ℕ) → (w == v) ≡ false → is_by v (Some w) ≡ false
  by_same w v h = h

  serves_enter : (s : State (Unit {0})) (q : List (Place × Option ℕ)) (w i j : ℕ) → w < m.fixed.workers → Serves s q → Enters s w i j → Serves (change m s (Enter w i j)) (places_after q (Enter w i j))
  serves_enter s q w i j less v e =
      let p0 = place_named plan i j in
      let os = e.open_there in
      let oq = named_open s q w i j less v e in
      record {
        keyed = v.keyed;
        lent = λ p u h. ⊎_elim
            (λ (same : same_place p p0 ≡ true).
            let is : p ≡ p0 = same_places p p0 same in
            let at : Some (Some w) ≡ Some (Some u) = sym (found_set (same_place p0) s.places None (Some w) os) ∙ subst (λ z. lookup (same_place z) (set_value (same_place p0) s.places (Some w)) ≡ Some (Some u)) is h in
            subst (λ z. lookup (same_place z) (set_value (same_place p0) q (Some w)) ≡ Some (Some u)) (sym is) (found_set (same_place p0) q None (Some w) oq ∙ at))
            (λ (other : same_place p p0 ≡ false). other_set p p0 q (Some w) other ∙ v.lent p u (sym (other_set p p0 s.places (Some w) other) ∙ h)) (test (same_place p p0));
        free = λ a u inside few mode h.
            let p = place_named plan a (instance_of plan u a) in
            ⊎_elim
            (λ (same : same_place p p0 ≡ true).
            let at : Some (Some w) ≡ Some None = sym (found_set (same_place p0) s.places None (Some w) os) ∙ subst (λ z. lookup (same_place z) (set_value (same_place p0) s.places (Some w)) ≡ Some None) (same_places p p0 same) h in
            let no : Some w ≡ None = some_same at in absurd (cc))
            (λ (other : same_place p p0 ≡ false). other_set p p0 q (Some w) other ∙ v.free a u inside few mode (sym (other_set p p0 s.places (Some w) other) ∙ h)) (test (same_place p p0));
        held = λ u. ⊎_elim
            (λ (mine : (w == u) ≡ true).
            let is : w ≡ u = eqb-true w u mine in
            subst (λ z. length (leases_of z (set_value (same_place p0) q (Some w))) ≡ length (leases_of z (set_value (same_place p0) s.places (Some w)))) is
            (ap length (lease_taken w p0 q oq (lease_none w q (holds_there s q w v e.hands))) ∙ sym (ap length (lease_taken w p0 s.places os (lease_none w s.places e.hands)))))
            (λ (other : (w == u) ≡ false).
            ap length (lease_other u p0 None (Some w) q oq refl other) ∙ v.held u ∙ sym (ap length (lease_other u p0 None (Some w) s.places os refl other))) (test (w == u));
      }

  serves_leave : (s : State (Unit {0})) (q : List (Place × Option ℕ)) (w i j : ℕ) → Serves s q → meets m s (Leave w i j) ≡ true → Serves (change m s (Leave w i j)) (places_after q (Leave w i j))
  serves_leave s q w i j v h0 =
      let p0 = place_named plan i j in
      let hs = held_some w (lookup (same_place p0) s.places) h0 in
      let hq = v.lent p0 w hs in
      record {
        keyed = v.keyed;
        lent = λ p u h. ⊎_elim
            (λ (same : same_place p p0 ≡ true).
            let at : Some None ≡ Some (Some u) = sym (found_set (same_place p0) s.places (Some w) None hs) ∙ subst (λ z. lookup (same_place z) (set_value (same_place p0) s.places None) ≡ Some (Some u)) (same_places p p0 same) h in
            let no : None ≡ Some u = some_same at in absurd (cc))
            (λ (other : same_place p p0 ≡ false). other_set p p0 q None other ∙ v.lent p u (sym (other_set p p0 s.places None other) ∙ h)) (test (same_place p p0));
        free = λ a u inside few mode h.
            let p = place_named plan a (instance_of plan u a) in
            ⊎_elim
            (λ (same : same_place p p0 ≡ true). subst (λ z. lookup (same_place z) (set_value (same_place p0) q None) ≡ Some None) (sym (same_places p p0 same)) (found_set (same_place p0) q (Some w) None hq))
            (λ (other : same_place p p0 ≡ false). other_set p p0 q None other ∙ v.free a u inside few mode (sym (other_set p p0 s.places None other) ∙ h)) (test (same_place p p0));
        held = λ u. ⊎_elim
            (λ (mine : (w == u) ≡ true).
            let is : w ≡ u = eqb-true w u mine in
            let a = lease_back w p0 q hq in
            let b = lease_back w p0 s.places hs in
            let c = v.held w in
            subst (λ z. length (leases_of z (set_value (same_place p0) q None)) ≡ length (leases_of z (set_value (same_place p0) s.places None))) is (omega arith))
            (λ (other : (w == u) ≡ false).
            ap length (lease_other u p0 (Some w) None q hq other refl) ∙ v.held u ∙ sym (ap length (lease_other u p0 (Some w) None s.places hs other refl))) (test (w == u));
      }

  serves_step : (s : State (Unit {0})) (q : List (Place × Option ℕ)) (e : Event) → worker_of e < m.fixed.workers → Serves s q → meets m s e ≡ true → Serves (change m s e) (places_after q e)
  serves_step s q (Hit w k) less v h = record { keyed = v.keyed; lent = v.lent; free = v.free; held = v.held }
  serves_step s q (Claim w k) less v h =
      let a = left_true (is_key plan k && not (is_some (at_key k s.cache)) && not (is_some (at_key k s.claims))) (is_running s) h in
      let b = left_true (is_key plan k && not (is_some (at_key k s.cache))) (not (is_some (at_key k s.claims))) a in
      let c = left_true (is_key plan k) (not (is_some (at_key k s.cache))) b in
      let d = ltb-true k.node (length plan) (left_true (nat_lt k.node (length plan)) _ c) in
      record { keyed = keyed_push k w s.claims v.keyed d; lent = v.lent; free = v.free; held = v.held }
  serves_step s q (Enter w i j) less v h = serves_enter s q w i j less v (enters s w i j h)
  serves_step s q (Leave w i j) less v h = serves_leave s q w i j v h
  serves_step s q (Evict w k) less v h = record { keyed = v.keyed; lent = v.lent; free = v.free; held = v.held }
  serves_step s q (Publish w k) less v h = record { keyed = keyed_without k s.claims v.keyed; lent = v.lent; free = v.free; held = v.held }
  serves_step s q (Abandon w k) less v h = record { keyed = keyed_without k s.claims v.keyed; lent = v.lent; free = v.free; held = v.held }
  serves_step s q (Take w n) less v h = record { keyed = v.keyed; lent = v.lent; free = v.free; held = v.held }
  serves_step s q (Deliver w n) less v h = record { keyed = v.keyed; lent = v.lent; free = v.free; held = v.held }
  serves_step s q (Fail w why) less v h = record { keyed = v.keyed; lent = v.lent; free = v.free; held = v.held }

  serve : (es : List Event) (s r : State (Unit {0})) (q : List (Place × Option ℕ)) → Serves s q → replay m s es ≡ Some r → (t : List (Place × Option ℕ)) × (replay m (record s { places = q }) es ≡ Some (record r { places = t }))
  serve [] s r q v ran = let same : s ≡ r = some_same ran in (q, ap (λ (z : State (Unit {0})). Some (record z { places = q })) same)
  serve (e ∷ es) s r q v ran = ⊎_elim
      (λ (ok : allowed m s e ≡ true).
      let turn = left_true (in_turn s.awaits e) (nat_lt (worker_of e) m.fixed.workers && meets m s e) ok in
      let rest = right_true (in_turn s.awaits e) (nat_lt (worker_of e) m.fixed.workers && meets m s e) ok in
      let few = left_true (nat_lt (worker_of e) m.fixed.workers) (meets m s e) rest in
      let met = right_true (nat_lt (worker_of e) m.fixed.workers) (meets m s e) rest in
      let less = ltb-true (worker_of e) m.fixed.workers few in
      let there = meets_there s q e less v met in
      let also_ok : allowed m (record s { places = q }) e ≡ true = rw (turn, few, there) refl in
      let ih = serve es (change m s e) r (places_after q e) (serves_step s q e less v met) (rw ok at ran) in
      (ih.0, rw also_ok (ap (λ (z : State (Unit {0})). replay m z es) (change_there s q e) ∙ ih.1)))
      (λ (bad : allowed m s e ≡ false). let none : None ≡ Some r = rw bad at ran in absurd (cc)) (test (allowed m s e))

-- WINDOWS

lookup_some : (p : Place) (ps : List Place) (w : ℕ) → lookup (same_place p) (free ps) ≡ Some (Some w) → ⊥
lookup_some p ps w h = let none : Some w ≡ None = found_free p ps (Some w) h in let no : ⊥ = cc in no

no_leases : (w : ℕ) (ps : List Place) → leases_of w (free ps) ≡ []
no_leases w [] = refl
no_leases w (p ∷ ps) = no_leases w ps

pub places_serve : PlacesServe
places_serve plan root capacity workers some cache window s is_plan ran =
    let m = in_window (machine_of plan root capacity workers) cache window in
    let all = places plan root capacity workers in
    let start : Serves m (start_of m cache some) (free all) = record {
      keyed = tt;
      lent = λ p w h. absurd (lookup_some p some w h);
      free = λ i w inside less mode h. named_there plan root capacity workers is_plan i w inside less mode;
      held = λ w. ap length (no_leases w all) ∙ sym (ap length (no_leases w some));
    } in
    let run = serve m window.events (start_of m cache some) s (free all) start ran in
    record { state = record s { places = run.0 }; runs = run.1; cache_is = refl; frames_are = refl; stop_is = refl }
