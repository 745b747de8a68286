-- In every run what a worker has is told by its own events.
use Rattle.std.proofs.Common.{◌≡◌, ℕ, ◌+◌, ◌-◌, ◌<◌, ◌≤◌, ◌==◌, Bool, true, false, ◌&&◌, ◌||◌, if◌then◌else◌, List, [], ◌∷◌, ◌++◌, map, length, set, slice_get, Option, Some, None, sym, refl, ap, ◌∙◌, subst, ⊎_elim, eq-eqb, ne_eqb, length-append, arith}
use Rattle.std.specs.Prelude.{is_some, option_map}
use Rattle.std.specs.Map.{lookup, set_value}
use Rattle.std.proofs.lemmas.Bool.{eqb-true, ltb-true, ltb-false}
use Rattle.std.proofs.lemmas.Option.{slice_get_within}
use Rattle.fv_plane.specs.declared.key.Key.{Key}
use Rattle.clip_graph.specs.Plan.{Application, input_keys}
use Rattle.frame_cache.specs.Cached.{same_key, at_key, Differ}
use Rattle.frame_cache.proofs.CallerLemmas.{test, left_true, right_true, differ_push, differ_without}
use Rattle.inst_table.specs.declared.place.Place.{Place}
use Rattle.inst_table.specs.Places.{same_place}
use Rattle.inst_table.proofs.CallerLemmas.{same_places}
use Rattle.serve_machine.specs.declared.event.Event.{Event}
use Rattle.serve_machine.specs.declared.event.Event.TheVariants.{Hit, Claim, Enter, Leave, Evict, Publish, Abandon, Take, Deliver, Fail}
use Rattle.serve_machine.specs.declared.event.WindowStop.{WindowStop}
use Rattle.serve_machine.specs.Events.{worker_of, has, frame_key, gives, has_got, enters, has_entered, own_events}
use Rattle.serve_machine.proofs.OwnLemmas.{is_own}
use Rattle.serve_machine.specs.Machine.{State, place_named, is_by, is_entered, noted, got_at, gathered, Machine, meets, allowed, change, replay, stop_of, earlier, first_stop}
use Rattle.serve_machine.specs.Law.{start_of}
use Rattle.serve_machine.specs.Holdings.{Holdings, leases_of, outputs_of, holdings_of, has_number, without_number, next_holdings, holdings_after, own_holdings, IsOpenOutput, IsToldBy, OwnEventsTell}
use Rattle.serve_machine.proofs.GotLemmas.{mapped}
use Rattle.serve_machine.proofs.HolderLemmas.{found_set, other_set}
use Rattle.serve_machine.proofs.LawLemmas.{differ_none}
use Rattle.serve_machine.proofs.WorkerLists.{claims_tell, set_here, set_there, are_other, false_yet, claims_own, claims_other, closed_own, closed_other, lease_taken, lease_back, lease_other, no_lease, lease_none, few_none, output_own, output_other, delivered_own, delivered_other, Stood, output_stood, get_set, none_yet}
use Rattle.serve_machine.proofs.KeptLemmas.{its_claim}
use Rattle.serve_machine.proofs.TruthLemmas.{by_there, held_some, none_there, not_true, open_none, some_same}

module _ {F : Type 0} (m : Machine F) where
  -- what every state of a run keeps: outputs that are not taken are not delivered, and claims differ
  record Ready (s : State F) : Type 0 where
    untaken : (j : ℕ) → length s.taken ≤ j → j < m.fixed.count → slice_get s.frames j ≡ Some None
    differ : Differ s.claims

  taken_at : (s : State F) (w n : ℕ) → meets m s (Deliver w n) ≡ true → slice_get s.taken (n - m.fixed.first) ≡ Some w
  taken_at s w n ok = by_there w (slice_get s.taken (n - m.fixed.first)) (right_true _ _ (left_true _ _ (left_true _ _ ok)))

  undelivered_at : (s : State F) (w n : ℕ) → meets m s (Deliver w n) ≡ true → slice_get s.frames (n - m.fixed.first) ≡ Some None
  undelivered_at s w n ok = open_none (slice_get s.frames (n - m.fixed.first)) (right_true _ _ (left_true _ _ ok))

  ready_step : (s : State F) (e : Event) → meets m s e ≡ true → Ready s → Ready (change m s e)
  ready_step s (Hit w k) ok r = record { untaken = r.untaken; differ = r.differ }
  ready_step s (Claim w k) ok r = record { untaken = r.untaken; differ = differ_push k w s.claims (none_there (at_key k s.claims) (right_true _ _ (left_true _ _ ok))) r.differ }
  ready_step s (Enter w i j) ok r = record { untaken = r.untaken; differ = r.differ }
  ready_step s (Leave w i j) ok r = record { untaken = r.untaken; differ = r.differ }
  ready_step s (Evict w k) ok r = record { untaken = r.untaken; differ = r.differ }
  ready_step s (Publish w k) ok r = record { untaken = r.untaken; differ = differ_without k s.claims r.differ }
  ready_step s (Abandon w k) ok r = record { untaken = r.untaken; differ = differ_without k s.claims r.differ }
  ready_step s (Take w n) ok r = record { untaken = λ j h less. let l = length-append s.taken (w ∷ []) in r.untaken j (omega (arith, l, h)) less; differ = r.differ }
  ready_step s (Deliver w n) ok r = record {
    untaken = λ j h less. let within = slice_get_within s.taken (n - m.fixed.first) w (taken_at s w n ok) in
        get_set s.frames (n - m.fixed.first) j (got_at w (frame_key m.fixed.root n) s.got) (omega (arith, within, h)) ∙ r.untaken j h less;
    differ = r.differ;
  }
  ready_step s (Fail w why) ok r = record { untaken = r.untaken; differ = r.differ }

  -- An own event.

  put_own : (s : State F) (w : ℕ) (j n : ℕ) (o : Option F) → is_some o ≡ true → slice_get s.taken j ≡ Some w → slice_get s.frames j ≡ Some None → n ≡ m.fixed.first + j
      → outputs_of w m.fixed.first s.taken (set s.frames j o) ≡ without_number n (outputs_of w m.fixed.first s.taken s.frames)
  put_own s w j n None there at none is = absurd (cc)
  put_own s w j n (Some x) there at none is = delivered_own w m.fixed.first j x s.taken s.frames at none ∙ ap (λ k. without_number k (outputs_of w m.fixed.first s.taken s.frames)) (sym is)

  own_step : (s : State F) (e : Event) → meets m s e ≡ true → Ready s → length (leases_of (worker_of e) s.places) ≤ 1
      → holdings_of m.fixed (change m s e) (worker_of e) ≡ next_holdings m.fixed.plan (holdings_of m.fixed s (worker_of e)) e
  own_step s (Hit w k) ok r few = refl
  own_step s (Claim w k) ok r few = let more = claims_own w w k s.claims (eq-eqb w w refl) in λ i. record (holdings_of m.fixed s w) { claims = more i }
  own_step s (Enter w i j) ok r few =
      let p : Place = place_named m.fixed.plan i j in
      let free = open_none (lookup (same_place p) s.places) (right_true _ _ (left_true _ _ ok)) in
      let none = lease_none w s.places (right_true _ _ (left_true _ _ (left_true _ _ (left_true _ _ (left_true _ _ ok))))) in
      let one = lease_taken w p s.places free none in
      λ z. record (holdings_of m.fixed s w) { leases = one z }
  own_step s (Leave w i j) ok r few =
      let p : Place = place_named m.fixed.plan i j in
      let fewer = lease_back w p s.places (held_some w (lookup (same_place p) s.places) ok) in
      let none = few_none (leases_of w (set_value (same_place p) s.places None)) (omega (arith, fewer, few)) in
      λ z. record (holdings_of m.fixed s w) { leases = none z }
  own_step s (Evict w k) ok r few = refl
  own_step s (Publish w k) ok r few = let less = closed_own w k s.claims (its_claim m s w k ok) in λ i. record (holdings_of m.fixed s w) { claims = less i }
  own_step s (Abandon w k) ok r few = let less = closed_own w k s.claims (by_there w (at_key k s.claims) ok) in λ i. record (holdings_of m.fixed s w) { claims = less i }
  own_step s (Take w n) ok r few =
      let next : n ≡ m.fixed.first + length s.taken = eqb-true _ _ (left_true _ _ (left_true _ _ ok)) in
      let less = ltb-true _ _ (right_true _ _ (left_true _ _ ok)) in
      let more = output_own w w m.fixed.first (length s.taken) s.taken s.frames (eq-eqb w w refl) refl (r.untaken (length s.taken) (omega arith) less)
      ∙ ap (λ k. outputs_of w m.fixed.first s.taken s.frames ++ k ∷ []) (sym next) in
      λ i. record (holdings_of m.fixed s w) { outputs = more i }
  own_step s (Deliver w n) ok r few =
      let low = ltb-false n m.fixed.first (not_true _ (left_true _ _ (left_true _ _ (left_true _ _ ok)))) in
      let less = put_own s w (n - m.fixed.first) n (got_at w (frame_key m.fixed.root n) s.got) (right_true _ _ ok) (taken_at s w n ok) (undelivered_at s w n ok) (omega (arith, low)) in
      λ i. record (holdings_of m.fixed s w) { outputs = less i }
  own_step s (Fail w why) ok r few = refl

  few_step : (plan : List Application) (h : Holdings) (e : Event) → length h.leases ≤ 1 → length (next_holdings plan h e).leases ≤ 1
  few_step plan h (Hit w k) few = few
  few_step plan h (Claim w k) few = few
  few_step plan h (Enter w i j) few = omega arith
  few_step plan h (Leave w i j) few = omega arith
  few_step plan h (Evict w k) few = few
  few_step plan h (Publish w k) few = few
  few_step plan h (Abandon w k) few = few
  few_step plan h (Take w n) few = few
  few_step plan h (Deliver w n) few = few
  few_step plan h (Fail w why) few = few

  -- Another worker's event.

  other_step : (s : State F) (e : Event) (w : ℕ) → meets m s e ≡ true → (worker_of e == w) ≡ false → holdings_of m.fixed (change m s e) w ≡ holdings_of m.fixed s w
  other_step s (Hit v k) w ok ne = refl
  other_step s (Claim v k) w ok ne = let same = claims_other w v k s.claims ne in λ i. record (holdings_of m.fixed s w) { claims = same i }
  other_step s (Enter v i j) w ok ne =
      let p : Place = place_named m.fixed.plan i j in
      let same = lease_other w p None (Some v) s.places (open_none (lookup (same_place p) s.places) (right_true _ _ (left_true _ _ ok))) refl ne in
      λ z. record (holdings_of m.fixed s w) { leases = same z }
  other_step s (Leave v i j) w ok ne =
      let p : Place = place_named m.fixed.plan i j in
      let same = lease_other w p (Some v) None s.places (held_some v (lookup (same_place p) s.places) ok) ne refl in
      λ z. record (holdings_of m.fixed s w) { leases = same z }
  other_step s (Evict v k) w ok ne = refl
  other_step s (Publish v k) w ok ne = let same = closed_other w v k s.claims (its_claim m s v k ok) ne in λ i. record (holdings_of m.fixed s w) { claims = same i }
  other_step s (Abandon v k) w ok ne = let same = closed_other w v k s.claims (by_there v (at_key k s.claims) ok) ne in λ i. record (holdings_of m.fixed s w) { claims = same i }
  other_step s (Take v n) w ok ne = let same = output_other w v m.fixed.first s.taken s.frames ne in λ i. record (holdings_of m.fixed s w) { outputs = same i }
  other_step s (Deliver v n) w ok ne =
      let same = delivered_other w v m.fixed.first (n - m.fixed.first) (got_at v (frame_key m.fixed.root n) s.got) s.taken s.frames (taken_at s v n ok) ne in
      λ i. record (holdings_of m.fixed s w) { outputs = same i }
  other_step s (Fail v why) w ok ne = refl

  -- A lease stands at its place.

  placed_other : (s : State F) (w : ℕ) (p q : Place) (o x : Option ℕ) → lookup (same_place q) s.places ≡ Some o → is_by w o ≡ false → lookup (same_place p) s.places ≡ Some (Some w)
      → lookup (same_place p) (set_value (same_place q) s.places x) ≡ Some (Some w)
  placed_other s w p q o x was other at = ⊎_elim
      (λ (e : same_place p q ≡ true). let at' : Some o ≡ Some (Some w) = sym was ∙ (ap (λ z. lookup (same_place z) s.places) (sym (same_places p q e)) ∙ at) in
      let bad : false ≡ true = sym other ∙ (ap (is_by w) (some_same at') ∙ eq-eqb w w refl) in absurd (cc))
      (λ (e : same_place p q ≡ false). other_set p q s.places x e ∙ at) (test (same_place p q))

  placed_step : (s : State F) (e : Event) (w : ℕ) → meets m s e ≡ true → length (leases_of w s.places) ≤ 1 → ((p : Place) → leases_of w s.places ≡ p ∷ [] → lookup (same_place p) s.places ≡ Some (Some w))
      → (p : Place) → leases_of w (change m s e).places ≡ p ∷ [] → lookup (same_place p) (change m s e).places ≡ Some (Some w)
  placed_step s (Enter v i j) w ok few at p h =
      let q : Place = place_named m.fixed.plan i j in
      let free = open_none (lookup (same_place q) s.places) (right_true _ _ (left_true _ _ ok)) in
      ⊎_elim
      (λ (e : (v == w) ≡ true). let is = eqb-true v w e in
      let none = lease_none v s.places (right_true _ _ (left_true _ _ (left_true _ _ (left_true _ _ (left_true _ _ ok))))) in
      let one : leases_of w (set_value (same_place q) s.places (Some v)) ≡ q ∷ [] = ap (λ u. leases_of u (set_value (same_place q) s.places (Some v))) (sym is) ∙ lease_taken v q s.places free none in
      let same : q ∷ [] ≡ p ∷ [] = sym one ∙ h in
      let place : q ≡ p = cc in
      subst (λ z. lookup (same_place z) (set_value (same_place q) s.places (Some v)) ≡ Some (Some w)) place (found_set (same_place q) s.places None (Some v) free ∙ ap (λ u. Some (Some u)) is))
      (λ (e : (v == w) ≡ false). placed_other s w p q None (Some v) free refl (at p (sym (lease_other w q None (Some v) s.places free refl e) ∙ h))) (test (v == w))
  placed_step s (Leave v i j) w ok few at p h =
      let q : Place = place_named m.fixed.plan i j in
      let out = held_some v (lookup (same_place q) s.places) ok in
      ⊎_elim
      (λ (e : (v == w) ≡ true). let is = eqb-true v w e in
      let fewer = lease_back w q s.places (out ∙ ap (λ u. Some (Some u)) is) in
      let l : length (leases_of w (set_value (same_place q) s.places None)) ≡ 1 = ap length h in
      absurd (omega (arith, fewer, few, l)))
      (λ (e : (v == w) ≡ false). placed_other s w p q (Some v) None out e (at p (sym (lease_other w q (Some v) None s.places out e refl) ∙ h))) (test (v == w))
  placed_step s (Hit v k) w ok few at p h = at p h
  placed_step s (Claim v k) w ok few at p h = at p h
  placed_step s (Evict v k) w ok few at p h = at p h
  placed_step s (Publish v k) w ok few at p h = at p h
  placed_step s (Abandon v k) w ok few at p h = at p h
  placed_step s (Take v n) w ok few at p h = at p h
  placed_step s (Deliver v n) w ok few at p h = at p h
  placed_step s (Fail v why) w ok few at p h = at p h

  -- What was got and entered.

  noted_is : (v w : ℕ) (j k : Key) (o : Option F) (got : List ((ℕ × Key) × F)) → is_some o ≡ true
      → is_some (got_at w k (noted (v, j) o got)) ≡ ((v == w && same_key k j) || is_some (got_at w k got))
  noted_is v w j k None got there = absurd (cc)
  noted_is v w j k (Some x) got there = elim (v == w && same_key k j) as (λ b. is_some (if b then Some x else got_at w k got) ≡ (b || is_some (got_at w k got))) [ true ↦ refl | false ↦ refl ]

  got_step : (s : State F) (e : Event) (w : ℕ) (k : Key) → meets m s e ≡ true → is_some (got_at w k (change m s e).got) ≡ (gives w k e || is_some (got_at w k s.got))
  got_step s (Hit v j) w k ok = noted_is v w j k (at_key j s.cache) s.got (left_true _ _ (left_true _ _ ok))
  got_step s (Publish v j) w k ok =
      let all = gathered v (input_keys m.fixed.plan j) s.got in
      noted_is v w j k (option_map (m.make j) all) s.got (mapped (m.make j) all (right_true _ _ (left_true _ _ ok)))
  got_step s (Claim v j) w k ok = refl
  got_step s (Enter v i j) w k ok = refl
  got_step s (Leave v i j) w k ok = refl
  got_step s (Evict v j) w k ok = refl
  got_step s (Abandon v j) w k ok = refl
  got_step s (Take v n) w k ok = refl
  got_step s (Deliver v n) w k ok = refl
  got_step s (Fail v why) w k ok = refl

  entered_step : (s : State F) (e : Event) (w i : ℕ) → is_entered w i (change m s e).entered ≡ (enters w i e || is_entered w i s.entered)
  entered_step s (Hit v j) w i = refl
  entered_step s (Claim v j) w i = refl
  entered_step s (Enter v a b) w i = refl
  entered_step s (Leave v a b) w i = refl
  entered_step s (Evict v j) w i = refl
  entered_step s (Publish v j) w i = refl
  entered_step s (Abandon v j) w i = refl
  entered_step s (Take v n) w i = refl
  entered_step s (Deliver v n) w i = refl
  entered_step s (Fail v why) w i = refl

  swapped : (a b c : Bool) → (b || (a || c)) ≡ ((a || b) || c)
  swapped true true c = refl
  swapped true false c = refl
  swapped false true c = refl
  swapped false false c = refl

  got_is : (w : ℕ) (k : Key) (events : List Event) (s t : State F) → replay m s events ≡ Some t → (has_got w k events || is_some (got_at w k s.got)) ≡ is_some (got_at w k t.got)
  got_is w k [] s t ran = ap (λ (z : State F). is_some (got_at w k z.got)) (some_same ran)
  got_is w k (e ∷ es) s t ran = ⊎_elim
      (λ (ok : allowed m s e ≡ true). sym (swapped (gives w k e) (has_got w k es) (is_some (got_at w k s.got)))
      ∙ (ap (λ b. has_got w k es || b) (sym (got_step s e w k (right_true _ _ (right_true _ _ ok)))) ∙ got_is w k es (change m s e) t (rw ok at ran)))
      (λ (bad : allowed m s e ≡ false). let none : None ≡ Some t = rw bad at ran in absurd (cc)) (test (allowed m s e))

  entered_is : (w i : ℕ) (events : List Event) (s t : State F) → replay m s events ≡ Some t → (has_entered w i events || is_entered w i s.entered) ≡ is_entered w i t.entered
  entered_is w i [] s t ran = ap (λ (z : State F). is_entered w i z.entered) (some_same ran)
  entered_is w i (e ∷ es) s t ran = ⊎_elim
      (λ (ok : allowed m s e ≡ true). sym (swapped (enters w i e) (has_entered w i es) (is_entered w i s.entered))
      ∙ (ap (λ b. has_entered w i es || b) (sym (entered_step s e w i)) ∙ entered_is w i es (change m s e) t (rw ok at ran)))
      (λ (bad : allowed m s e ≡ false). let none : None ≡ Some t = rw bad at ran in absurd (cc)) (test (allowed m s e))

  or_false : (a : Bool) → (a || false) ≡ a
  or_false true = refl
  or_false false = refl

  -- Failures.

  stop_step : (o rest : Option WindowStop) → is_some (earlier o rest) ≡ (is_some o || is_some rest)
  stop_step None rest = refl
  stop_step (Some why) rest = refl

  failed_own : (s : State F) (e : Event) (b : Bool) → meets m s e ≡ true → slice_get s.failed (worker_of e) ≡ Some b → slice_get (change m s e).failed (worker_of e) ≡ Some (is_some (stop_of e) || b)
  failed_own s (Hit w k) b ok h = h
  failed_own s (Claim w k) b ok h = h
  failed_own s (Enter w i j) b ok h = h
  failed_own s (Leave w i j) b ok h = h
  failed_own s (Evict w k) b ok h = h
  failed_own s (Publish w k) b ok h = h
  failed_own s (Abandon w k) b ok h = h
  failed_own s (Take w n) b ok h = h
  failed_own s (Deliver w n) b ok h = h
  failed_own s (Fail w why) b ok h = set_here s.failed w true b h

  failed_other : (s : State F) (e : Event) (w : ℕ) → (worker_of e == w) ≡ false → slice_get (change m s e).failed w ≡ slice_get s.failed w
  failed_other s (Hit v k) w ne = refl
  failed_other s (Claim v k) w ne = refl
  failed_other s (Enter v i j) w ne = refl
  failed_other s (Leave v i j) w ne = refl
  failed_other s (Evict v k) w ne = refl
  failed_other s (Publish v k) w ne = refl
  failed_other s (Abandon v k) w ne = refl
  failed_other s (Take v n) w ne = refl
  failed_other s (Deliver v n) w ne = refl
  failed_other s (Fail v why) w ne = set_there s.failed v w true (are_other v w ne)

  turned : (a b c : Bool) → (b || (a || c)) ≡ ((a || b) || c)
  turned true true c = refl
  turned true false c = refl
  turned false true c = refl
  turned false false c = refl

  failed_is : (w : ℕ) (events : List Event) (s t : State F) (b : Bool) → slice_get s.failed w ≡ Some b → replay m s events ≡ Some t
      → slice_get t.failed w ≡ Some (b || is_some (first_stop (own_events w events)))
  failed_is w [] s t b h ran = ap (λ (z : State F). slice_get z.failed w) (sym (some_same ran)) ∙ (h ∙ ap Some (sym (or_false b)))
  failed_is w (e ∷ es) s t b h ran = ⊎_elim
      (λ (ok : allowed m s e ≡ true). ⊎_elim
      (λ (own : (worker_of e == w) ≡ true). let is = eqb-true (worker_of e) w own in
      let now = subst (λ v. slice_get (change m s e).failed v ≡ Some (is_some (stop_of e) || b)) is (failed_own s e b (right_true _ _ (right_true _ _ ok)) (subst (λ v. slice_get s.failed v ≡ Some b) (sym is) h)) in
      let rest = failed_is w es (change m s e) t (is_some (stop_of e) || b) now (rw ok at ran) in
      rw own (rest ∙ ap Some (sym (turned (is_some (stop_of e)) b (is_some (first_stop (own_events w es)))) ∙ ap (λ x. b || x) (sym (stop_step (stop_of e) (first_stop (own_events w es)))))))
      (λ (other : (worker_of e == w) ≡ false). rw other (failed_is w es (change m s e) t b (failed_other s e w other ∙ h) (rw ok at ran))) (test (worker_of e == w)))
      (λ (bad : allowed m s e ≡ false). let none : None ≡ Some t = rw bad at ran in absurd (cc)) (test (allowed m s e))

  -- A run.

  record Told (w : ℕ) (h : Holdings) (own : List Event) (t : State F) : Type 0 where
    holdings : holdings_after m.fixed.plan h own ≡ holdings_of m.fixed t w
    differ : Differ t.claims
    placed : (p : Place) → leases_of w t.places ≡ p ∷ [] → lookup (same_place p) t.places ≡ Some (Some w)

  told : (w : ℕ) (events : List Event) (s t : State F) → Ready s → length (leases_of w s.places) ≤ 1 → ((p : Place) → leases_of w s.places ≡ p ∷ [] → lookup (same_place p) s.places ≡ Some (Some w))
      → replay m s events ≡ Some t → Told w (holdings_of m.fixed s w) (own_events w events) t
  told w [] s t r few at ran = subst (Told w (holdings_of m.fixed s w) []) (some_same ran) (record { holdings = refl; differ = r.differ; placed = at })
  told w (e ∷ es) s t r few at ran = ⊎_elim
      (λ (ok : allowed m s e ≡ true). let met = right_true _ _ (right_true _ _ ok) in
      let on : replay m (change m s e) es ≡ Some t = rw ok at ran in
      let placed = placed_step s e w met few at in
      ⊎_elim
      (λ (b : (worker_of e == w) ≡ true). let is = eqb-true (worker_of e) w b in
      let step : holdings_of m.fixed (change m s e) w ≡ next_holdings m.fixed.plan (holdings_of m.fixed s w) e =
      subst (λ v. holdings_of m.fixed (change m s e) v ≡ next_holdings m.fixed.plan (holdings_of m.fixed s v) e) is (own_step s e met r (subst (λ v. length (leases_of v s.places) ≤ 1) (sym is) few)) in
      let few' = subst (λ (h : Holdings). length h.leases ≤ 1) (sym step) (few_step m.fixed.plan (holdings_of m.fixed s w) e few) in
      let rest = told w es (change m s e) t (ready_step s e met r) few' placed on in
      rw b (record { holdings = ap (λ h. holdings_after m.fixed.plan h (own_events w es)) (sym step) ∙ rest.holdings; differ = rest.differ; placed = rest.placed }))
      (λ (b : (worker_of e == w) ≡ false).
      let step : holdings_of m.fixed (change m s e) w ≡ holdings_of m.fixed s w = other_step s e w met b in
      let few' = subst (λ (h : Holdings). length h.leases ≤ 1) (sym step) few in
      let rest = told w es (change m s e) t (ready_step s e met r) few' placed on in
      rw b (record { holdings = ap (λ h. holdings_after m.fixed.plan h (own_events w es)) (sym step) ∙ rest.holdings; differ = rest.differ; placed = rest.placed })) (test (worker_of e == w)))
      (λ (bad : allowed m s e ≡ false). let none : None ≡ Some t = rw bad at ran in absurd (cc)) (test (allowed m s e))

  none_out : (w : ℕ) (places : List Place) → leases_of w (map (λ p. (p, None)) places) ≡ []
  none_out w [] = refl
  none_out w (p ∷ places) = none_out w places

  opened : (s : State F) (w n : ℕ) → Stood w m.fixed.first n s.taken s.frames → IsOpenOutput m s w n
  opened s w n d =
      let number = d.number in
      let index : d.index ≡ n - m.fixed.first = omega (arith, number) in
      record {
        low = omega (arith, number);
        taken = subst (λ j. slice_get s.taken j ≡ Some w) index d.worker;
        undelivered = subst (λ j. slice_get s.frames j ≡ Some None) index d.undelivered;
      }

  tells : (cache : List (Key × F)) (places : List Place) (events : List Event) (s : State F) (w : ℕ) → replay m (start_of m cache places) events ≡ Some s → IsToldBy m (own_events w events) s w
  tells cache places events s w ran =
      let nothing = none_out w places in
      let d = told w events (start_of m cache places) s (record { untaken = λ j h less. none_yet m.fixed.count j less; differ = differ_none ℕ }) (let l = ap length nothing in omega (arith, l))
      (λ p h. let bad : [] ≡ p ∷ [] = sym nothing ∙ h in absurd (cc)) ran in
      let start : holdings_of m.fixed (start_of m cache places) w ≡ record { claims = []; leases = []; outputs = [] } = λ i. record { claims = []; leases = nothing i; outputs = [] } in
      let same : own_holdings m.fixed.plan (own_events w events) ≡ holdings_of m.fixed s w = ap (λ h. holdings_after m.fixed.plan h (own_events w events)) (sym start) ∙ d.holdings in
      record {
        holdings = same;
        got = λ k. is_own.got w k events ∙ (sym (or_false (has_got w k events)) ∙ got_is w k events (start_of m cache places) s ran);
        entered = λ i. is_own.entered w i events ∙ (sym (or_false (has_entered w i events)) ∙ entered_is w i events (start_of m cache places) s ran);
        failed = λ less. failed_is w events (start_of m cache places) s false (false_yet m.fixed.workers w less) ran;
        claim = λ k. ap (λ (x : Holdings). has k x.claims) same ∙ claims_tell w k s.claims d.differ;
        lease = λ p h. d.placed p (ap (λ (x : Holdings). x.leases) (sym same) ∙ h);
        idle = λ h. no_lease w s.places (ap (λ (x : Holdings). x.leases) (sym same) ∙ h);
        output = λ n h. opened s w n (output_stood w m.fixed.first n s.taken s.frames (ap (λ (x : Holdings). has_number n x.outputs) (sym same) ∙ h));
      }

  unnoted : (v w : ℕ) (j k : Key) (o : Option F) (got : List ((ℕ × Key) × F)) → (v == w) ≡ false → got_at w k (noted (v, j) o got) ≡ got_at w k got
  unnoted v w j k None got ne = refl
  unnoted v w j k (Some x) got ne = rw ne refl

  same_got : (s : State F) (e : Event) (w : ℕ) (k : Key) → (worker_of e == w) ≡ false → got_at w k (change m s e).got ≡ got_at w k s.got
  same_got s (Hit v j) w k ne = unnoted v w j k (at_key j s.cache) s.got ne
  same_got s (Claim v j) w k ne = refl
  same_got s (Enter v i j) w k ne = refl
  same_got s (Leave v i j) w k ne = refl
  same_got s (Evict v j) w k ne = refl
  same_got s (Publish v j) w k ne = unnoted v w j k (option_map (m.make j) (gathered v (input_keys m.fixed.plan j) s.got)) s.got ne
  same_got s (Abandon v j) w k ne = refl
  same_got s (Take v n) w k ne = refl
  same_got s (Deliver v n) w k ne = refl
  same_got s (Fail v why) w k ne = refl

  same_entered : (s : State F) (e : Event) (w i : ℕ) → (worker_of e == w) ≡ false → is_entered w i (change m s e).entered ≡ is_entered w i s.entered
  same_entered s (Enter v a b) w i ne = rw ne refl
  same_entered s (Hit v j) w i ne = refl
  same_entered s (Claim v j) w i ne = refl
  same_entered s (Leave v a b) w i ne = refl
  same_entered s (Evict v j) w i ne = refl
  same_entered s (Publish v j) w i ne = refl
  same_entered s (Abandon v j) w i ne = refl
  same_entered s (Take v n) w i ne = refl
  same_entered s (Deliver v n) w i ne = refl
  same_entered s (Fail v why) w i ne = refl

pub own_events_tell : (F : Type 0) → OwnEventsTell F
own_events_tell F = record {
  told = λ m cache places events s w ran. tells m cache places events s w ran;
  others = λ m s e w ok other. let ne = ne_eqb (worker_of e) w other in record {
    holdings = other_step m s e w (right_true _ _ (right_true _ _ ok)) ne;
    got = λ k. same_got m s e w k ne;
    entered = λ i. same_entered m s e w i ne;
    failed = failed_other m s e w ne;
  };
}
