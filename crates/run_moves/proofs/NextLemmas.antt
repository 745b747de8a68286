-- The next turn of a worker that is somewhere in its work.
use Rattle.std.proofs.Common.{◌≡◌, ◌⊎◌, inl, inr, ℕ, suc, ◌<◌, ◌≤◌, ◌==◌, true, false, ◌||◌, List, [], ◌∷◌, ◌++◌, length, Option, refl, sym, ap, ◌∙◌, arith, subst, ⊎_elim, append_assoc, eq-eqb}
use Rattle.std.specs.List.{AllByRecursion}
use Rattle.std.proofs.lemmas.Bool.{eqb-true}
use Rattle.std.proofs.lemmas.List.{append-nil}
use Rattle.fv_plane.specs.declared.key.Key.{Key}
use Rattle.clip_graph.specs.Plan.{Application, IsPlan, input_keys}
use Rattle.serve_machine.specs.declared.event.Event.{Event}
use Rattle.serve_machine.specs.declared.event.Event.TheVariants.{Hit, Claim, Enter, Leave, Publish, Abandon, Take, Deliver}
use Rattle.serve_machine.specs.Events.{IsKey, same_key, has, frame_key, mode_at, instance_of, has_got, has_got_all}
use Rattle.serve_machine.specs.SerialRun.{eviction, leases}
use Rattle.serve_machine.specs.Work.{Production, hit, made, Productions, done, more, CutShort, refused, inside, entered, unpublished, CutInputs, between, within, Deliveries, none, also, CutDeliveries, untaken, taken, nothing}
use Rattle.serve_machine.proofs.KeyLemmas.{test, key_itself}
use Rattle.serve_machine.proofs.OwnLemmas.{now_got, all_got}
use Rattle.serve_machine.specs.Machine.{place_named}
use Rattle.serve_machine.specs.Holdings.{Holdings, has_number, holdings_after, own_holdings}
use Rattle.serve_machine.proofs.ClosingLemmas.{holdings_after-append, now_all_got, produced_got, produced_all_got, work_closes}
use Rattle.run_moves.specs.Moves.{InWork, midway, ready, newest_node}
use Rattle.run_moves.specs.Waiting.{IsNewest}
use Rattle.run_moves.proofs.InputLemmas.{IsInput, most_below, inputs_are, all_left, all_next}
use Rattle.run_moves.proofs.HoldLemmas.{newest-push, claimed, IsReady, ready_claimed, ready_below, produced, inputs_produced, after_leases, took, ready_took, after_taken, short_holds}

-- WORK, ONE MORE

module _ {plan : List Application} {w : ℕ} where
  pub more_produced : {ks : List Key} {es : List Event} {j : Key} {fs : List Event} → Productions plan w ks es → Production plan w j fs → Productions plan w (ks ++ j ∷ []) (es ++ fs)
  more_produced {j = j} {fs = fs} (done) q = subst (Productions plan w (j ∷ [])) (append-nil fs) (more q done)
  more_produced {j = j} {fs = gs} (more {k = k} {ks = ks} {es = es} {fs = fs} p r) q =
      subst (Productions plan w (k ∷ (ks ++ j ∷ []))) (sym (append_assoc es fs gs)) (more p (more_produced r q))

  more_delivered : {root n : ℕ} {ns : List ℕ} {es fs : List Event} → Deliveries plan root w ns es → Production plan w (frame_key root n) fs
      → Deliveries plan root w (ns ++ n ∷ []) (es ++ (Take w n ∷ (fs ++ Deliver w n ∷ [])))
  more_delivered {root = root} {n = n} {fs = fs} (none) q = subst (Deliveries plan root w (n ∷ [])) (append-nil (Take w n ∷ (fs ++ Deliver w n ∷ []))) (also q none)
  more_delivered {root = root} {n = n} {fs = gs} (also {n = k} {ns = ns} {es = es} {fs = fs} p r) q =
      let one = Take w k ∷ (es ++ Deliver w k ∷ []) in
      subst (Deliveries plan root w (k ∷ (ns ++ n ∷ []))) (sym (append_assoc one fs (Take w n ∷ (gs ++ Deliver w n ∷ [])))) (also p (more_delivered r q))

-- WHAT COMES NEXT

-- a key that a worker with these claims asks for: an input of the newest, or an output
pub data IsWanted (plan : List Application) (root : ℕ) (claims : List Key) : Key → Type 0 where
  by_claim : {j k : Key} → IsNewest j claims → has k (input_keys plan j) ≡ true → IsWanted plan root claims k
  by_output : {n : ℕ} → claims ≡ [] → IsWanted plan root claims (frame_key root n)

-- where the premise of the work holds, what a worker with these holdings and these events does next, within a production
pub data Next (plan : List Application) (root w : ℕ) (Premise : Type 0) (g : Holdings) (es : List Event) (Goes : List Event → Type 0) : Type 0 where
  asks : (k : Key) → (Premise → IsKey plan k) → k.node < newest_node (length plan) g.claims → IsWanted plan root g.claims k → g.leases ≡ [] → Goes (Hit w k ∷ []) → Goes (Claim w k ∷ []) → Next plan root w Premise g es Goes
  enters : (k : Key) → k.node < length plan → IsNewest k g.claims → newest_node (length plan) g.claims ≡ k.node → has k g.claims ≡ true → g.leases ≡ [] → (mode_at plan k.node ≡ 1 → ⊥)
      → Goes (Enter w k.node (instance_of plan w k.node) ∷ []) → Next plan root w Premise g es Goes
  leaves : (k : Key) → g.leases ≡ place_named plan k.node (instance_of plan w k.node) ∷ [] → Goes (Leave w k.node (instance_of plan w k.node) ∷ []) → Next plan root w Premise g es Goes
  publishes : (k : Key) → has k g.claims ≡ true → g.leases ≡ [] → has_got_all w (input_keys plan k) es ≡ true
      → ((gone : Option Key) → Goes (eviction w gone ++ Publish w k ∷ [])) → Next plan root w Premise g es Goes

-- the same of a longer list of events
map_next : {plan : List Application} {root w : ℕ} {P Q : Type 0} {g : Holdings} {es fs : List Event} {A B : List Event → Type 0} → (Q → P)
    → ((ks : List Key) → has_got_all w ks es ≡ true → has_got_all w ks fs ≡ true) → ((gs : List Event) → A gs → B gs)
    → Next plan root w P g es A → Next plan root w Q g fs B
map_next premise got on (asks k is less wanted free h c) = asks k (λ q. is (premise q)) less wanted free (on _ h) (on _ c)
map_next premise got on (enters k there new at has free needed e) = enters k there new at has free needed (on _ e)
map_next premise got on (leaves k lent e) = leaves k lent (on _ e)
map_next premise got on (publishes k has free all e) = publishes k has free (got _ all) (λ gone. on _ (e gone))

-- work on a key that may be cut short, or that is whole
abbrev pub Ahead : List Application → ℕ → Key → List Event → List Event → Type 0
Ahead plan w k es fs = ((closing : List Event) × CutShort plan w k (es ++ fs) closing) ⊎ Production plan w k (es ++ fs)

abbrev pub AheadInputs : List Application → ℕ → List Key → List Event → List Event → Type 0
AheadInputs plan w all es fs = (closing : List Event) × CutInputs plan w all (es ++ fs) closing

has_pushed : (k : Key) (cs : List Key) → has k (cs ++ k ∷ []) ≡ true
has_pushed k [] = rw (key_itself k) refl
has_pushed k (c ∷ cs) = let ih = has_pushed k cs in elim (same_key k c) as (λ b. (b || has k (cs ++ k ∷ [])) ≡ true) [ true ↦ refl | false ↦ ih ]

has_middle : (ks : List Key) (j : Key) (js all : List Key) → all ≡ ks ++ j ∷ js → has j all ≡ true
has_middle ks j js all e = ap (has j) e ∙ go ks
  where
    go : (ks : List Key) → has j (ks ++ j ∷ js) ≡ true
    go [] = rw (key_itself j) refl
    go (k ∷ ks) = let ih = go ks in elim (same_key j k) as (λ b. (b || has j (ks ++ j ∷ js)) ≡ true) [ true ↦ refl | false ↦ ih ]

module _ (plan : List Application) (root w : ℕ) (is : IsPlan plan) where
  next_refused : (k : Key) (h : Holdings) → IsWanted plan root h.claims k → IsReady plan (suc k.node) h → Next plan root w (IsKey plan k) h [] (Ahead plan w k [])
  next_refused k h wanted r = let low = r.low in
      asks k (λ q. q) (omega (arith, low)) wanted r.unlent (inr hit) (inl (Abandon w k ∷ [], inside (between (input_keys plan k) refl done)))

  on_input : (ks : List Key) (j : Key) (js all : List Key) (es fs gs : List Event) → all ≡ ks ++ j ∷ js → Productions plan w ks es → Ahead plan w j fs gs
      → AheadInputs plan w all (es ++ fs) gs
  on_input ks j js all es fs gs e p (inl cut) =
      (cut.0, subst (λ x. CutInputs plan w all x cut.0) (sym (append_assoc es fs gs)) (within js e p cut.1))
  on_input ks j js all es fs gs e p (inr q) =
      ([], subst (λ x. CutInputs plan w all x []) (sym (append_assoc es fs gs)) (between js (e ∙ sym (append_assoc ks (j ∷ []) js)) (more_produced p q)))

  -- a claim whose inputs are produced
  next_made : (k : Key) (es : List Event) (h : Holdings) → k.node < length plan → IsReady plan (suc k.node) h → Productions plan w (input_keys plan k) es
      → Next plan root w (IsKey plan k) (claimed h k) (Claim w k ∷ es) (Ahead plan w k (Claim w k ∷ es))
  next_made k es h there r p = ⊎_elim
      (λ (e : (mode_at plan k.node == 1) ≡ true).
      let no_lease : leases plan w k.node ≡ [] = rw e refl in
      publishes k (has_pushed k h.claims) r.unlent (now_all_got w (input_keys plan k) (Claim w k ∷ []) es (produced_all_got plan w (input_keys plan k) es p))
      (λ gone. inr (subst (λ ls. Production plan w k (Claim w k ∷ (es ++ (ls ++ (eviction w gone ++ Publish w k ∷ []))))) no_lease (made gone p))))
      (λ (e : (mode_at plan k.node == 1) ≡ false).
      let needed : mode_at plan k.node ≡ 1 → ⊥ = λ one. let yes' = eq-eqb (mode_at plan k.node) 1 one in let bad : true ≡ false = sym yes' ∙ e in absurd (cc) in
      enters k there (record { older = h.claims; are = refl }) (newest-push (length plan) h.claims k) (has_pushed k h.claims) r.unlent needed (inl (_, entered needed p))) (test (mode_at plan k.node == 1))

  mutual
    pub next_short : (k : Key) (es closing : List Event) (h : Holdings) → k.node < length plan → IsWanted plan root h.claims k → IsReady plan (suc k.node) h → CutShort plan w k es closing
        → Next plan root w (IsKey plan k) (holdings_after plan h es) es (Ahead plan w k es)
    next_short k es closing h there wanted r (refused) = next_refused k h wanted r
    next_short k _ _ h there wanted r (inside {es = es} {closing = closing} c) = ⊎_elim
        (λ (p : Productions plan w (input_keys plan k) es).
        subst (λ g. Next plan root w (IsKey plan k) g (Claim w k ∷ es) (Ahead plan w k (Claim w k ∷ es))) (sym (inputs_produced plan w is k es h there r p)) (next_made k es h there r p))
        (λ (n : Next plan root w (Unit {0}) (holdings_after plan (claimed h k) es) es (AheadInputs plan w (input_keys plan k) es)).
        map_next (λ q. tt) (λ ks all. now_all_got w ks (Claim w k ∷ []) es all) (λ fs a. inl (a.0 ++ Abandon w k ∷ [], inside a.1)) n)
        (next_inputs k.node (most_below plan k) (input_keys plan k) es closing (claimed h k) (omega arith) (inputs_are plan k is there)
        (λ j among. by_claim (record { older = h.claims; are = refl }) among) (ready_claimed plan w is k h r) c)
    next_short k _ _ h there wanted r (entered {es = es} needed p) =
        let i = k.node in let j = instance_of plan w k.node in
        let after : holdings_after plan (claimed h k) (es ++ Enter w i j ∷ []) ≡ record (claimed h k) { leases = place_named plan i j ∷ [] } =
        holdings_after-append plan (claimed h k) es (Enter w i j ∷ []) ∙ ap (λ g. holdings_after plan g (Enter w i j ∷ [])) (inputs_produced plan w is k es h there r p) in
        let both : leases plan w i ≡ Enter w i j ∷ Leave w i j ∷ [] = ⊎_elim
        (λ (e : (mode_at plan i == 1) ≡ true). absurd (needed (eqb-true (mode_at plan i) 1 e)))
        (λ (e : (mode_at plan i == 1) ≡ false). rw e refl) (test (mode_at plan i == 1)) in
        let way : Claim w k ∷ (es ++ leases plan w i) ≡ (Claim w k ∷ (es ++ Enter w i j ∷ [])) ++ Leave w i j ∷ [] =
        ap (λ ls. Claim w k ∷ (es ++ ls)) both ∙ ap (λ x. Claim w k ∷ x) (sym (append_assoc es (Enter w i j ∷ []) (Leave w i j ∷ []))) in
        leaves k (ap (λ (g : Holdings). g.leases) after) (inl (Abandon w k ∷ [], subst (λ x. CutShort plan w k x (Abandon w k ∷ [])) way (unpublished p)))
    next_short k _ _ h there wanted r (unpublished {es = es} p) =
        let i = k.node in
        let after : holdings_after plan (claimed h k) (es ++ leases plan w i) ≡ claimed h k =
        holdings_after-append plan (claimed h k) es (leases plan w i) ∙ (ap (λ g. holdings_after plan g (leases plan w i)) (inputs_produced plan w is k es h there r p) ∙ after_leases plan w is i (claimed h k) r.unlent) in
        publishes k (ap (λ (g : Holdings). has k g.claims) after ∙ has_pushed k h.claims) (ap (λ (g : Holdings). g.leases) after ∙ r.unlent)
        (still_got es (leases plan w i) (produced_all_got plan w (input_keys plan k) es p))
        (λ gone. inr (subst (Production plan w k) (ap (λ x. Claim w k ∷ x) (sym (append_assoc es (leases plan w i) (eviction w gone ++ Publish w k ∷ [])))) (made gone p)))
      where
        still_got : (es fs : List Event) → has_got_all w (input_keys plan k) es ≡ true → has_got_all w (input_keys plan k) (Claim w k ∷ (es ++ fs)) ≡ true
        still_got es fs all = now_all_got w (input_keys plan k) (Claim w k ∷ []) (es ++ fs) (all_got w (input_keys plan k) es fs all)

    pub next_inputs : (i most : ℕ) (all : List Key) (es closing : List Event) (h : Holdings) → i ≤ length plan → AllByRecursion (IsInput plan i most) all
        → ((j : Key) → has j all ≡ true → IsWanted plan root h.claims j) → IsReady plan i h → CutInputs plan w all es closing → Productions plan w all es ⊎ Next plan root w (Unit {0}) (holdings_after plan h es) es (AheadInputs plan w all es)
    next_inputs i most all es _ h few each wanted r (between {ks = ks} [] e p) = inl (subst (λ x. Productions plan w x es) (sym (e ∙ append-nil ks)) p)
    next_inputs i most all es _ h few each wanted r (between {ks = ks} (j ∷ js) e p) =
        let input = all_next (IsInput plan i most) ks j js all e each in
        let less = (input.below).node in
        let same = produced plan w is i most ks es h few (all_left (IsInput plan i most) ks (j ∷ js) all e each) r p in
        let whole : es ++ [] ≡ es = append-nil es in
        inr (subst (λ g. Next plan root w (Unit {0}) g es (AheadInputs plan w all es)) (sym same)
        (map_next (λ q. record { node = omega (arith, less, few); number = (input.below).number }) (λ ks all. subst (λ x. has_got_all w ks x ≡ true) whole (now_all_got w ks es [] all))
        (λ gs a. subst (λ x. AheadInputs plan w all x gs) whole (on_input ks j js all es [] gs e p a))
        (next_refused j h (wanted j (has_middle ks j js all e)) (ready_below plan w is i (suc j.node) h (omega (arith, less)) r))))
    next_inputs i most all _ _ h few each wanted r (within {ks = ks} {j = j} {es = es} {fs = fs} {closing = closing} js e p c) =
        let input = all_next (IsInput plan i most) ks j js all e each in
        let less = (input.below).node in
        let same : holdings_after plan h (es ++ fs) ≡ holdings_after plan h fs = holdings_after-append plan h es fs
        ∙ ap (λ g. holdings_after plan g fs) (produced plan w is i most ks es h few (all_left (IsInput plan i most) ks (j ∷ js) all e each) r p) in
        inr (subst (λ g. Next plan root w (Unit {0}) g (es ++ fs) (AheadInputs plan w all (es ++ fs))) (sym same)
        (map_next (λ q. record { node = omega (arith, less, few); number = (input.below).number }) (λ ks all. now_all_got w ks es fs all) (λ gs a. on_input ks j js all es fs gs e p a)
        (next_short j fs closing h (omega (arith, less, few)) (wanted j (has_middle ks j js all e)) (ready_below plan w is i (suc j.node) h (omega (arith, less)) r) c)))

-- what a worker in its work does next: within a production, or at an output
pub data NextTurn (plan : List Application) (root w : ℕ) (g : Holdings) (es : List Event) (Goes : List Event → Type 0) : Type 0 where
  produces : (n : ℕ) → has_number n g.outputs ≡ true → Next plan root w (IsKey plan (frame_key root n)) g es Goes → NextTurn plan root w g es Goes
  delivers : (n : ℕ) → has_number n g.outputs ≡ true → has_got w (frame_key root n) es ≡ true → Goes (Deliver w n ∷ []) → NextTurn plan root w g es Goes
  takes : g ≡ nothing → ((n : ℕ) → Goes (Take w n ∷ [])) → NextTurn plan root w g es Goes

numbered : (n : ℕ) (ns : List ℕ) → ns ≡ n ∷ [] → has_number n ns ≡ true
numbered n ns same = rw same (rw (eq-eqb n n refl) refl)

module _ (plan : List Application) (root w : ℕ) (is : IsPlan plan) (there : root < length plan) where
  on_output : (ns : List ℕ) (n : ℕ) (es fs gs : List Event) → Deliveries plan root w ns es → Ahead plan w (frame_key root n) fs gs → InWork plan root w ((es ++ Take w n ∷ fs) ++ gs)
  on_output ns n es fs gs p (inl cut) = subst (InWork plan root w) (sym (append_assoc es (Take w n ∷ fs) gs)) (midway (taken p cut.1))
  on_output ns n es fs gs p (inr q) = subst (InWork plan root w) (sym (append_assoc es (Take w n ∷ fs) gs)) (ready p q)

  pub next_turn : (es : List Event) → InWork plan root w es → NextTurn plan root w (own_holdings plan es) es (λ fs. InWork plan root w (es ++ fs))
  next_turn es (midway (untaken {ns = ns} p)) = takes (work_closes.deliveries plan root w ns es is there p) (λ n. midway (taken p refused))
  next_turn _ (midway (taken {ns = ns} {es = es} {fs = fs} {closing = closing} {n = n} p c)) =
      let k = frame_key root n in
      let after = after_taken plan w is root n ns es fs there p in
      let held = (short_holds plan w is k fs closing (took (n ∷ [])) there (ready_took plan w is root (n ∷ []) there) c).outputs in
      produces n (numbered n (own_holdings plan (es ++ Take w n ∷ fs)).outputs (ap (λ (g : Holdings). g.outputs) after ∙ held))
      (subst (λ g. Next plan root w (IsKey plan k) g (es ++ Take w n ∷ fs) (λ gs. InWork plan root w ((es ++ Take w n ∷ fs) ++ gs))) (sym after)
      (map_next (λ q. q) (λ ks all. now_all_got w ks es (Take w n ∷ fs) (now_all_got w ks (Take w n ∷ []) fs all)) (λ gs a. on_output ns n es fs gs p a)
      (next_short plan root w is k fs closing (took (n ∷ [])) there (by_output refl) (ready_took plan w is root (n ∷ []) there) c)))
  next_turn _ (ready {ns = ns} {es = es} {fs = fs} {n = n} p q) =
      let after = after_taken plan w is root n ns es fs there p
      ∙ work_closes.production plan w (frame_key root n) fs (took (n ∷ [])) is there (record { past = tt; unlent = refl }) q in
      delivers n (numbered n (own_holdings plan (es ++ Take w n ∷ fs)).outputs (ap (λ (g : Holdings). g.outputs) after))
      (now_got w (frame_key root n) es (Take w n ∷ fs) (now_got w (frame_key root n) (Take w n ∷ []) fs (produced_got plan w (frame_key root n) fs q)))
      (midway (subst (λ x. CutDeliveries plan root w x []) (sym (append_assoc es (Take w n ∷ fs) (Deliver w n ∷ []))) (untaken (more_delivered p q))))
