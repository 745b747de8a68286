-- A part of work from its begin on is work again, unless it ends with an eviction.
use Rattle.std.proofs.Common.{◌≡◌, ◌⊎◌, inl, inr, ℕ, zero, suc, ◌==◌, nat_lt, Bool, true, false, ◌&&◌, List, [], ◌∷◌, ◌++◌, Option, Some, None, refl, sym, ap, ◌∙◌, subst, ⊎_elim, append_assoc, eq-eqb, length}
use Rattle.std.specs.Prelude.{take}
use Rattle.std.proofs.lemmas.Bool.{eqb-true}
use Rattle.std.proofs.lemmas.List.{append-nil}
use Rattle.fv_plane.specs.declared.key.Key.{Key}
use Rattle.clip_graph.specs.Plan.{Application, input_keys}
use Rattle.inst_table.specs.declared.place.Place.{Place}
use Rattle.serve_machine.specs.declared.event.Event.{Event}
use Rattle.serve_machine.specs.declared.event.Event.TheVariants.{Hit, Claim, Enter, Leave, Evict, Publish, Abandon, Take, Deliver, Fail}
use Rattle.serve_machine.specs.Events.{worker_of, frame_key, mode_at, instance_of, own_events}
use Rattle.serve_machine.specs.SerialRun.{eviction, leases}
use Rattle.serve_machine.specs.Work.{Production, hit, made, Productions, done, more, CutShort, refused, inside, entered, unpublished, CutInputs, between, within, Deliveries, none, also, untaken, taken}
use Rattle.serve_machine.proofs.KeyLemmas.{test, left_true}
use Rattle.serve_machine.specs.Law.{start_of}
use Rattle.serve_machine.specs.Machine.{Machine, in_turn, meets, allowed, change, replay, State}
use Rattle.serve_machine.specs.Journals.{is_eviction}
use Rattle.serve_machine.proofs.TruthLemmas.{some_same}
use Rattle.run_moves.specs.Moves.{InWork, midway, ready}
use Rattle.run_moves.specs.Waiting.{AllInWork}
use Rattle.run_moves.specs.Along.{StaysInWork}
use Rattle.run_moves.proofs.NextLemmas.{more_produced}
use Rattle.run_moves.proofs.MoveLemmas.{own_append}

-- PARTS OF LISTS

abbrev no_events : List Event
no_events = []

take_none : (n : ℕ) → take n no_events ≡ []
take_none zero = refl
take_none (suc n) = refl

-- a part of two lists ends in the first, or it has that whole
take_of : (n : ℕ) (es fs : List Event) → (take n (es ++ fs) ≡ take n es) ⊎ ((m : ℕ) × (take n (es ++ fs) ≡ es ++ take m fs))
take_of n [] fs = inr (n, refl)
take_of zero (e ∷ es) fs = inl refl
take_of (suc n) (e ∷ es) fs = ⊎_elim
    (λ (h : take n (es ++ fs) ≡ take n es). inl (ap (λ x. e ∷ x) h))
    (λ (h : (m : ℕ) × (take n (es ++ fs) ≡ es ++ take m fs)). inr (h.0, ap (λ x. e ∷ x) h.1)) (take_of n es fs)

-- the events end with an eviction
record Evicts (w : ℕ) (es : List Event) : Type 0 where
  before : List Event
  gone : Key
  are : es ≡ before ++ Evict w gone ∷ []

evicts_after : (w : ℕ) (es fs : List Event) → Evicts w fs → Evicts w (es ++ fs)
evicts_after w es fs e = record { before = es ++ e.before; gone = e.gone; are = ap (λ x. es ++ x) e.are ∙ sym (append_assoc es e.before (Evict w e.gone ∷ [])) }

-- PARTS OF WORK

data Part (plan : List Application) (w : ℕ) (k : Key) (es : List Event) : Type 0 where
  short : {closing : List Event} → CutShort plan w k es closing → Part plan w k es
  whole : Production plan w k es → Part plan w k es
  evicting : Evicts w es → Part plan w k es

data Parts (plan : List Application) (w : ℕ) (ks : List Key) (es : List Event) : Type 0 where
  some : {closing : List Event} → CutInputs plan w ks es closing → Parts plan w ks es
  evicting : Evicts w es → Parts plan w ks es

module _ (plan : List Application) (w : ℕ) where
  claim_part : (k : Key) (es : List Event) → Parts plan w (input_keys plan k) es → Part plan w k (Claim w k ∷ es)
  claim_part k es (some c) = short (inside c)
  claim_part k es (evicting e) = evicting (evicts_after w (Claim w k ∷ []) es e)

  all_done : (k : Key) (es : List Event) → Productions plan w (input_keys plan k) es → Part plan w k (Claim w k ∷ es)
  all_done k es p = short (inside (between [] (sym (append-nil (input_keys plan k))) p))

  -- the inputs are produced, and of the instance's events there is a part
  lease_part : (k : Key) (es : List Event) (m : ℕ) → Productions plan w (input_keys plan k) es → Part plan w k (Claim w k ∷ (es ++ take m (leases plan w k.node)))
  lease_part k es m p = ⊎_elim
      (λ (e : (mode_at plan k.node == 1) ≡ true). rw e (subst (λ x. Part plan w k (Claim w k ∷ x)) (sym (ap (λ x. es ++ x) (take_none m) ∙ append-nil es)) (all_done k es p)))
      (λ (e : (mode_at plan k.node == 1) ≡ false).
      let both : leases plan w k.node ≡ Enter w k.node (instance_of plan w k.node) ∷ Leave w k.node (instance_of plan w k.node) ∷ [] = rw e refl in
      subst (λ ls. Part plan w k (Claim w k ∷ (es ++ take m ls))) (sym both) (go m e both)) (test (mode_at plan k.node == 1))
    where
      go : (m : ℕ) → (mode_at plan k.node == 1) ≡ false → leases plan w k.node ≡ Enter w k.node (instance_of plan w k.node) ∷ Leave w k.node (instance_of plan w k.node) ∷ []
          → Part plan w k (Claim w k ∷ (es ++ take m (Enter w k.node (instance_of plan w k.node) ∷ Leave w k.node (instance_of plan w k.node) ∷ [])))
      go zero e both = subst (λ x. Part plan w k (Claim w k ∷ x)) (sym (append-nil es)) (all_done k es p)
      go (suc zero) e both = short (entered (λ one. let yes' = eq-eqb (mode_at plan k.node) 1 one in let bad : true ≡ false = sym yes' ∙ e in absurd (cc)) p)
      go (suc (suc j)) e both = subst (λ x. Part plan w k (Claim w k ∷ (es ++ x))) (both ∙ ap (λ x. Enter w k.node (instance_of plan w k.node) ∷ Leave w k.node (instance_of plan w k.node) ∷ x) (sym (take_none j))) (short (unpublished p))

  -- all but the publication is done, and of that there is a part
  publish_part : (k : Key) (es : List Event) (m : ℕ) (gone : Option Key) → Productions plan w (input_keys plan k) es
      → Part plan w k (Claim w k ∷ (es ++ (leases plan w k.node ++ take m (eviction w gone ++ Publish w k ∷ []))))
  publish_part k es m gone p = go m gone
    where
      before : Part plan w k (Claim w k ∷ (es ++ (leases plan w k.node ++ [])))
      before = subst (λ x. Part plan w k (Claim w k ∷ (es ++ x))) (sym (append-nil (leases plan w k.node))) (short (unpublished p))

      go : (m : ℕ) (gone : Option Key) → Part plan w k (Claim w k ∷ (es ++ (leases plan w k.node ++ take m (eviction w gone ++ Publish w k ∷ []))))
      go zero None = before
      go zero (Some g) = before
      go (suc j) None = subst (λ x. Part plan w k (Claim w k ∷ (es ++ (leases plan w k.node ++ Publish w k ∷ x)))) (sym (take_none j)) (whole (made None p))
      go (suc zero) (Some g) = evicting (record { before = Claim w k ∷ (es ++ leases plan w k.node); gone = g; are = ap (λ x. Claim w k ∷ x) (sym (append_assoc es (leases plan w k.node) (Evict w g ∷ []))) })
      go (suc (suc j)) (Some g) = subst (λ x. Part plan w k (Claim w k ∷ (es ++ (leases plan w k.node ++ Evict w g ∷ Publish w k ∷ x)))) (sym (take_none j)) (whole (made (Some g) p))

  -- a part of the first inputs, or of those after the first
  first_part : (k : Key) (ks : List Key) (es : List Event) → Part plan w k es → Parts plan w (k ∷ ks) es
  first_part k ks es (short c) = some (within ks refl done c)
  first_part k ks es (whole p) = some (between ks refl (subst (Productions plan w (k ∷ [])) (append-nil es) (more p done)))
  first_part k ks es (evicting e) = evicting e

  later_part : (k : Key) (ks : List Key) (es fs : List Event) → Production plan w k es → Parts plan w ks fs → Parts plan w (k ∷ ks) (es ++ fs)
  later_part k ks es fs p (some (between js e q)) = some (between js (ap (λ x. k ∷ x) e) (more p q))
  later_part k ks es _ p (some (within {es = gs} {fs = hs} js e q c)) = subst (Parts plan w (k ∷ ks)) (append_assoc es gs hs) (some (within js (ap (λ x. k ∷ x) e) (more p q) c))
  later_part k ks es fs p (evicting e) = evicting (evicts_after w es fs e)

  -- of the first of some inputs
  wider : (ks js all : List Key) (es : List Event) → all ≡ ks ++ js → Parts plan w ks es → Parts plan w all es
  wider ks js all es e (some (between {ks = is} hs d q)) = some (between (hs ++ js) (e ∙ (ap (λ x. x ++ js) d ∙ append_assoc is hs js)) q)
  wider ks js all _ e (some (within {ks = is} {j = j} hs d q c)) = some (within (hs ++ js) (e ∙ (ap (λ x. x ++ js) d ∙ append_assoc is (j ∷ hs) js)) q c)
  wider ks js all es e (evicting v) = evicting v

  mutual
    whole_part : (n : ℕ) (k : Key) (es : List Event) → Production plan w k es → Part plan w k (take n es)
    whole_part zero k _ (hit) = short refused
    whole_part (suc n) k _ (hit) = subst (λ x. Part plan w k (Hit w k ∷ x)) (sym (take_none n)) (whole hit)
    whole_part zero k _ (made lost p) = short refused
    whole_part (suc n) k _ (made {es = es} gone p) =
        let ls = leases plan w k.node in let rest = eviction w gone ++ Publish w k ∷ [] in
        ⊎_elim
        (λ (h : take n (es ++ (ls ++ rest)) ≡ take n es). subst (λ x. Part plan w k (Claim w k ∷ x)) (sym h) (claim_part k (take n es) (whole_parts n (input_keys plan k) es p)))
        (λ (h : (m : ℕ) × (take n (es ++ (ls ++ rest)) ≡ es ++ take m (ls ++ rest))). subst (λ x. Part plan w k (Claim w k ∷ x)) (sym h.1) (⊎_elim
        (λ (g : take h.0 (ls ++ rest) ≡ take h.0 ls). subst (λ x. Part plan w k (Claim w k ∷ (es ++ x))) (sym g) (lease_part k es h.0 p))
        (λ (g : (m : ℕ) × (take h.0 (ls ++ rest) ≡ ls ++ take m rest)). subst (λ x. Part plan w k (Claim w k ∷ (es ++ x))) (sym g.1) (publish_part k es g.0 gone p))
        (take_of h.0 ls rest))) (take_of n es (ls ++ rest))

    whole_parts : (n : ℕ) (ks : List Key) (es : List Event) → Productions plan w ks es → Parts plan w ks (take n es)
    whole_parts n ks _ (done) = subst (Parts plan w []) (sym (take_none n)) (some (between [] refl done))
    whole_parts n _ _ (more {k = k} {ks = ks} {es = es} {fs = fs} p q) = ⊎_elim
        (λ (h : take n (es ++ fs) ≡ take n es). subst (Parts plan w (k ∷ ks)) (sym h) (first_part k ks (take n es) (whole_part n k es p)))
        (λ (h : (m : ℕ) × (take n (es ++ fs) ≡ es ++ take m fs)). subst (Parts plan w (k ∷ ks)) (sym h.1) (later_part k ks es (take h.0 fs) p (whole_parts h.0 ks fs q)))
        (take_of n es fs)

  last_part : (m : ℕ) (k : Key) (es : List Event) → (mode_at plan k.node ≡ 1 → ⊥) → Productions plan w (input_keys plan k) es
      → Part plan w k (Claim w k ∷ (es ++ take m (Enter w k.node (instance_of plan w k.node) ∷ [])))
  last_part zero k es needed p = subst (λ x. Part plan w k (Claim w k ∷ x)) (sym (append-nil es)) (all_done k es p)
  last_part (suc j) k es needed p = subst (λ x. Part plan w k (Claim w k ∷ (es ++ Enter w k.node (instance_of plan w k.node) ∷ x))) (sym (take_none j)) (short (entered needed p))

  then_part : (ks : List Key) (j : Key) (js all : List Key) (es fs : List Event) → all ≡ ks ++ j ∷ js → Productions plan w ks es → Part plan w j fs → Parts plan w all (es ++ fs)
  then_part ks j js all es fs e p (short c) = some (within js e p c)
  then_part ks j js all es fs e p (whole q) = some (between js (e ∙ sym (append_assoc ks (j ∷ []) js)) (more_produced p q))
  then_part ks j js all es fs e p (evicting v) = evicting (evicts_after w es fs v)

  mutual
    short_part : (n : ℕ) (k : Key) (es closing : List Event) → CutShort plan w k es closing → Part plan w k (take n es)
    short_part n k _ _ (refused) = subst (Part plan w k) (sym (take_none n)) (short refused)
    short_part zero k _ _ (inside c) = short refused
    short_part (suc n) k _ _ (inside {es = es} {closing = closing} c) = claim_part k (take n es) (short_parts n (input_keys plan k) es closing c)
    short_part zero k _ _ (entered needed p) = short refused
    short_part (suc n) k _ _ (entered {es = es} needed p) =
        let e : Event = Enter w k.node (instance_of plan w k.node) in
        ⊎_elim
        (λ (h : take n (es ++ e ∷ []) ≡ take n es). subst (λ x. Part plan w k (Claim w k ∷ x)) (sym h) (claim_part k (take n es) (whole_parts n (input_keys plan k) es p)))
        (λ (h : (m : ℕ) × (take n (es ++ e ∷ []) ≡ es ++ take m (e ∷ []))). subst (λ x. Part plan w k (Claim w k ∷ x)) (sym h.1) (last_part h.0 k es needed p)) (take_of n es (e ∷ []))
    short_part zero k _ _ (unpublished p) = short refused
    short_part (suc n) k _ _ (unpublished {es = es} p) = ⊎_elim
        (λ (h : take n (es ++ leases plan w k.node) ≡ take n es). subst (λ x. Part plan w k (Claim w k ∷ x)) (sym h) (claim_part k (take n es) (whole_parts n (input_keys plan k) es p)))
        (λ (h : (m : ℕ) × (take n (es ++ leases plan w k.node) ≡ es ++ take m (leases plan w k.node))). subst (λ x. Part plan w k (Claim w k ∷ x)) (sym h.1) (lease_part k es h.0 p))
        (take_of n es (leases plan w k.node))

    short_parts : (n : ℕ) (all : List Key) (es closing : List Event) → CutInputs plan w all es closing → Parts plan w all (take n es)
    short_parts n all es _ (between {ks = ks} js e p) = wider ks js all (take n es) e (whole_parts n ks es p)
    short_parts n all _ _ (within {ks = ks} {j = j} {es = es} {fs = fs} {closing = closing} js e p c) = ⊎_elim
        (λ (h : take n (es ++ fs) ≡ take n es). subst (Parts plan w all) (sym h) (wider ks (j ∷ js) all (take n es) e (whole_parts n ks es p)))
        (λ (h : (m : ℕ) × (take n (es ++ fs) ≡ es ++ take m fs)). subst (Parts plan w all) (sym h.1) (then_part ks j js all es (take h.0 fs) e p (short_part h.0 j fs closing c)))
        (take_of n es fs)

-- OUTPUTS

data WorkPart (plan : List Application) (root w : ℕ) (es : List Event) : Type 0 where
  work : InWork plan root w es → WorkPart plan root w es
  evicting : Evicts w es → WorkPart plan root w es

module _ (plan : List Application) (root w : ℕ) where
  output_part : (ns : List ℕ) (n : ℕ) (es fs : List Event) → Deliveries plan root w ns es → Part plan w (frame_key root n) fs → WorkPart plan root w (es ++ Take w n ∷ fs)
  output_part ns n es fs d (short c) = work (midway (taken d c))
  output_part ns n es fs d (whole p) = work (ready d p)
  output_part ns n es fs d (evicting e) = evicting (evicts_after w es (Take w n ∷ fs) (evicts_after w (Take w n ∷ []) fs e))

  one_delivered : (n : ℕ) (es : List Event) → Production plan w (frame_key root n) es → Deliveries plan root w (n ∷ []) (Take w n ∷ (es ++ Deliver w n ∷ []))
  one_delivered n es p = subst (Deliveries plan root w (n ∷ [])) (append-nil (Take w n ∷ (es ++ Deliver w n ∷ []))) (also p none)

  deliver_part : (m n : ℕ) (es : List Event) → Production plan w (frame_key root n) es → WorkPart plan root w (Take w n ∷ (es ++ take m (Deliver w n ∷ [])))
  deliver_part zero n es p = subst (λ x. WorkPart plan root w (Take w n ∷ x)) (sym (append-nil es)) (work (ready none p))
  deliver_part (suc j) n es p = subst (λ x. WorkPart plan root w (Take w n ∷ (es ++ Deliver w n ∷ x))) (sym (take_none j)) (work (midway (untaken (one_delivered n es p))))

  delivery_part : (m n : ℕ) (es : List Event) → Production plan w (frame_key root n) es → WorkPart plan root w (take m (Take w n ∷ (es ++ Deliver w n ∷ [])))
  delivery_part zero n es p = work (midway (untaken none))
  delivery_part (suc m) n es p = ⊎_elim
      (λ (h : take m (es ++ Deliver w n ∷ []) ≡ take m es). subst (λ x. WorkPart plan root w (Take w n ∷ x)) (sym h) (output_part [] n [] (take m es) none (whole_part plan w m (frame_key root n) es p)))
      (λ (h : (i : ℕ) × (take m (es ++ Deliver w n ∷ []) ≡ es ++ take i (Deliver w n ∷ []))). subst (λ x. WorkPart plan root w (Take w n ∷ x)) (sym h.1) (deliver_part h.0 n es p))
      (take_of m es (Deliver w n ∷ []))

  later_output : (n : ℕ) (es fs : List Event) → Production plan w (frame_key root n) es → WorkPart plan root w fs → WorkPart plan root w ((Take w n ∷ (es ++ Deliver w n ∷ [])) ++ fs)
  later_output n es fs p (work (midway (untaken d))) = work (midway (untaken (also p d)))
  later_output n es _ p (work (midway (taken {es = gs} {fs = hs} {n = k} d c))) =
      subst (WorkPart plan root w) (append_assoc (Take w n ∷ (es ++ Deliver w n ∷ [])) gs (Take w k ∷ hs)) (work (midway (taken (also p d) c)))
  later_output n es _ p (work (ready {es = gs} {fs = hs} {n = k} d q)) =
      subst (WorkPart plan root w) (append_assoc (Take w n ∷ (es ++ Deliver w n ∷ [])) gs (Take w k ∷ hs)) (work (ready (also p d) q))
  later_output n es fs p (evicting e) = evicting (evicts_after w (Take w n ∷ (es ++ Deliver w n ∷ [])) fs e)

  deliveries_part : (m : ℕ) (ns : List ℕ) (es : List Event) → Deliveries plan root w ns es → WorkPart plan root w (take m es)
  deliveries_part m ns _ (none) = subst (WorkPart plan root w) (sym (take_none m)) (work (midway (untaken none)))
  deliveries_part m _ _ (also {n = n} {ns = ns} {es = es} {fs = fs} p d) =
      let one = Take w n ∷ (es ++ Deliver w n ∷ []) in
      ⊎_elim
      (λ (h : take m (one ++ fs) ≡ take m one). subst (WorkPart plan root w) (sym h) (delivery_part m n es p))
      (λ (h : (i : ℕ) × (take m (one ++ fs) ≡ one ++ take i fs)). subst (WorkPart plan root w) (sym h.1) (later_output n es (take h.0 fs) p (deliveries_part h.0 ns fs d)))
      (take_of m one fs)

  -- outputs, and a part of what follows the last
  taken_part : (m : ℕ) (ns : List ℕ) (n : ℕ) (es fs : List Event) → Deliveries plan root w ns es → ((i : ℕ) → Part plan w (frame_key root n) (take i fs)) → WorkPart plan root w (take m (es ++ Take w n ∷ fs))
  taken_part m ns n es fs d part = ⊎_elim
      (λ (h : take m (es ++ Take w n ∷ fs) ≡ take m es). subst (WorkPart plan root w) (sym h) (deliveries_part m ns es d))
      (λ (h : (i : ℕ) × (take m (es ++ Take w n ∷ fs) ≡ es ++ take i (Take w n ∷ fs))). subst (WorkPart plan root w) (sym h.1) (go h.0)) (take_of m es (Take w n ∷ fs))
    where
      go : (i : ℕ) → WorkPart plan root w (es ++ take i (Take w n ∷ fs))
      go zero = subst (WorkPart plan root w) (sym (append-nil es)) (work (midway (untaken d)))
      go (suc i) = output_part ns n es (take i fs) d (part i)

  work_part : (m : ℕ) (es : List Event) → InWork plan root w es → WorkPart plan root w (take m es)
  work_part m es (midway (untaken {ns = ns} d)) = deliveries_part m ns es d
  work_part m _ (midway (taken {ns = ns} {es = es} {fs = fs} {closing = closing} {n = n} d c)) = taken_part m ns n es fs d (λ i. short_part plan w i (frame_key root n) fs closing c)
  work_part m _ (ready {ns = ns} {es = es} {fs = fs} {n = n} d p) = taken_part m ns n es fs d (λ i. whole_part plan w i (frame_key root n) fs p)

-- AWAITED PUBLICATIONS

-- whether the last event is an eviction
abbrev evicts_last : Bool → List Event → Bool
evicts_last b [] = b
evicts_last b (e ∷ es) = evicts_last (is_eviction e) es

evicts_end : (w : ℕ) (b : Bool) (es : List Event) (k : Key) → evicts_last b (es ++ Evict w k ∷ []) ≡ true
evicts_end w b [] k = refl
evicts_end w b (e ∷ es) k = evicts_end w (is_eviction e) es k

take_all : (es fs : List Event) → take (length es) (es ++ fs) ≡ es
take_all [] fs = zero_of fs
  where
    zero_of : (fs : List Event) → take 0 fs ≡ []
    zero_of [] = refl
    zero_of (f ∷ fs) = refl
take_all (e ∷ es) fs = ap (λ x. e ∷ x) (take_all es fs)

module _ {F : Type 0} (m : Machine F) where
  own_evicts : (s : State F) (e : Event) → is_eviction e ≡ true → (change m s e).awaits ≡ Some (worker_of e)
  own_evicts s (Evict w k) is = refl
  own_evicts s (Hit w k) is = absurd (cc)
  own_evicts s (Claim w k) is = absurd (cc)
  own_evicts s (Enter w i j) is = absurd (cc)
  own_evicts s (Leave w i j) is = absurd (cc)
  own_evicts s (Publish w k) is = absurd (cc)
  own_evicts s (Abandon w k) is = absurd (cc)
  own_evicts s (Take w n) is = absurd (cc)
  own_evicts s (Deliver w n) is = absurd (cc)
  own_evicts s (Fail w why) is = absurd (cc)

  -- while a worker's publication is awaited only that worker has an event
  own_turns : (w : ℕ) (o : Option ℕ) (e : Event) → o ≡ Some w → in_turn o e ≡ true → worker_of e ≡ w
  own_turns w o e is turn = go e (subst (λ x. in_turn x e ≡ true) is turn)
    where
      go : (e : Event) → in_turn (Some w) e ≡ true → worker_of e ≡ w
      go (Publish v k) h = eqb-true v w h
      go (Evict v k) h = absurd (cc)
      go (Hit v k) h = absurd (cc)
      go (Claim v k) h = absurd (cc)
      go (Enter v i j) h = absurd (cc)
      go (Leave v i j) h = absurd (cc)
      go (Abandon v k) h = absurd (cc)
      go (Take v n) h = absurd (cc)
      go (Deliver v n) h = absurd (cc)
      go (Fail v why) h = absurd (cc)

  awaited : (w : ℕ) (b : Bool) (es : List Event) (s t : State F) → (b ≡ true → s.awaits ≡ Some w) → replay m s es ≡ Some t → evicts_last b (own_events w es) ≡ true → t.awaits ≡ Some w
  awaited w b [] s t at ran last = subst (λ (x : State F). x.awaits ≡ Some w) (some_same ran) (at last)
  awaited w b (e ∷ es) s t at ran last = ⊎_elim
      (λ (ok : allowed m s e ≡ true). ⊎_elim
      (λ (mine : (worker_of e == w) ≡ true).
      awaited w (is_eviction e) es (change m s e) t (λ is. own_evicts s e is ∙ ap Some (eqb-true (worker_of e) w mine)) (rw ok at ran) (rw mine at last))
      (λ (other : (worker_of e == w) ≡ false).
      awaited w b es (change m s e) t (λ is.
      let same = own_turns w s.awaits e (at is) (left_true (in_turn s.awaits e) (nat_lt (worker_of e) m.fixed.workers && meets m s e) ok) in
      let bad : true ≡ false = sym (eq-eqb (worker_of e) w same) ∙ other in absurd (cc)) (rw ok at ran) (rw other at last))
      (test (worker_of e == w)))
      (λ (bad : allowed m s e ≡ false). let nowhere : None ≡ Some t = rw bad at ran in absurd (cc)) (test (allowed m s e))

  stays : (cache : List (Key × F)) (places : List Place) (es fs : List Event) (s : State F) → replay m (start_of m cache places) es ≡ Some s → s.awaits ≡ None → AllInWork m (es ++ fs) → AllInWork m es
  stays cache places es fs s ran settled all w less = go (work_part m.fixed.plan m.fixed.root w (length (own_events w es)) (own_events w (es ++ fs)) (all w less))
    where
      same : take (length (own_events w es)) (own_events w (es ++ fs)) ≡ own_events w es
      same = ap (take (length (own_events w es))) (own_append w es fs) ∙ take_all (own_events w es) (own_events w fs)

      go : WorkPart m.fixed.plan m.fixed.root w (take (length (own_events w es)) (own_events w (es ++ fs))) → InWork m.fixed.plan m.fixed.root w (own_events w es)
      go (work it) = subst (InWork m.fixed.plan m.fixed.root w) same it
      go (evicting e) =
          let last : evicts_last false (own_events w es) ≡ true = ap (evicts_last false) (sym same ∙ e.are) ∙ evicts_end w false e.before e.gone in
          let at = awaited w false es (start_of m cache places) s (λ h. absurd (cc)) ran last in
          let bad : None ≡ Some w = sym settled ∙ at in absurd (cc)

pub stays_in_work : (F : Type 0) → StaysInWork F
stays_in_work F m cache places es fs s ran settled all = stays m cache places es fs s ran settled all
