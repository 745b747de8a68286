-- Work on outputs claims only keys that these reach.
use Rattle.std.proofs.Common.{◌≡◌, ◌⊎◌, ℕ, ◌<◌, ◌==◌, true, false, if◌then◌else◌, List, [], ◌∷◌, ◌++◌, Option, Some, None, sym, refl, ◌∙◌, subst, inl, inr, ⊎_elim}
use Rattle.std.specs.List.{AllByRecursion}
use Rattle.fv_plane.specs.declared.key.Key.{Key}
use Rattle.clip_graph.specs.Plan.{Application, input_keys}
use Rattle.frame_cache.specs.Cached.{same_key}
use Rattle.frame_cache.proofs.CallerLemmas.{same_keys, key_itself}
use Rattle.serve_machine.specs.declared.event.Event.{Event}
use Rattle.serve_machine.specs.declared.event.Event.TheVariants.{Abandon, Enter, Leave, Publish, Take, Deliver}
use Rattle.serve_machine.specs.Events.{frame_key, has, mode_at, instance_of}
use Rattle.serve_machine.specs.SerialRun.{eviction, leases}
use Rattle.serve_machine.specs.Work.{Production, hit, made, Productions, done, more, Deliveries, none, also, CutShort, refused, inside, entered, unpublished, CutInputs, between, within, CutDeliveries, untaken, taken}
use Rattle.serve_machine.specs.Journals.{is_claim, has_claimed, IsReached, output, input, TakesBelow, WorkReaches, CutWorkReaches}
use Rattle.serve_machine.proofs.TruthLemmas.{either, or_true}

-- a claim of two lists is one of the first or of the second
parts : (k : Key) (es fs : List Event) → has_claimed k (es ++ fs) ≡ true → (has_claimed k es ≡ true) ⊎ (has_claimed k fs ≡ true)
parts k [] fs h = inr h
parts k (e ∷ es) fs h = ⊎_elim
    (λ (g : is_claim k e ≡ true). inl (or_true (is_claim k e) (has_claimed k es) (inl g)))
    (λ (g : has_claimed k (es ++ fs) ≡ true). ⊎_elim
    (λ (f : has_claimed k es ≡ true). inl (or_true (is_claim k e) (has_claimed k es) (inr f)))
    (λ (f : has_claimed k fs ≡ true). inr f) (parts k es fs g)) (either (is_claim k e) (has_claimed k (es ++ fs)) h)

-- an instance, an eviction and a publication are no claims
no_claim : (plan : List Application) (w i : ℕ) (gone : Option Key) (j k : Key) → has_claimed k (leases plan w i ++ (eviction w gone ++ Publish w j ∷ [])) ≡ false
no_claim plan w i gone j k = elim (mode_at plan i == 1) as
    (λ b. has_claimed k ((if b then [] else Enter w i (instance_of plan w i) ∷ Leave w i (instance_of plan w i) ∷ []) ++ (eviction w gone ++ Publish w j ∷ [])) ≡ false) [ true ↦ last gone | false ↦ last gone ]
  where
    last : (o : Option Key) → has_claimed k (eviction w o ++ Publish w j ∷ []) ≡ false
    last None = refl
    last (Some g) = refl

-- an instance alone too
no_lease_claims : (plan : List Application) (w i : ℕ) (k : Key) → has_claimed k (leases plan w i) ≡ false
no_lease_claims plan w i k = elim (mode_at plan i == 1) as
    (λ b. has_claimed k (if b then [] else Enter w i (instance_of plan w i) ∷ Leave w i (instance_of plan w i) ∷ []) ≡ false) [ true ↦ refl | false ↦ refl ]

-- a key among the first of two lists is one of both
has_first : (i : Key) (ks js : List Key) → has i ks ≡ true → has i (ks ++ js) ≡ true
has_first i [] js h = absurd (cc)
has_first i (k ∷ ks) js h = ⊎_elim
    (λ (e : same_key i k ≡ true). or_true (same_key i k) (has i (ks ++ js)) (inl e))
    (λ (e : has i ks ≡ true). or_true (same_key i k) (has i (ks ++ js)) (inr (has_first i ks js e))) (either (same_key i k) (has i ks) h)

has_itself : (j : Key) (ks js : List Key) → has j (ks ++ j ∷ js) ≡ true
has_itself j [] js = or_true (same_key j j) (has j js) (inl (key_itself j))
has_itself j (k ∷ ks) js = or_true (same_key j k) (has j (ks ++ j ∷ js)) (inr (has_itself j ks js))

-- the first of two lists
pub first_below : (total : ℕ) (es fs : List Event) → AllByRecursion (TakesBelow total) (es ++ fs) → AllByRecursion (TakesBelow total) es
first_below total [] fs all = tt
first_below total (e ∷ es) fs all = (all.0, first_below total es fs all.1)

-- outputs that are taken below a number
pub outputs_below : (total : ℕ) {plan : List Application} {root w : ℕ} {ns : List ℕ} {es : List Event} → Deliveries plan root w ns es → AllByRecursion (TakesBelow total) es → AllByRecursion (λ n. n < total) ns
outputs_below total none all = tt
outputs_below total {w = w} (also {n = n} {es = es} {fs = fs} p q) all = (all.0, outputs_below total q (second (es ++ Deliver w n ∷ []) fs all.1))
  where
    second : (es fs : List Event) → AllByRecursion (TakesBelow total) (es ++ fs) → AllByRecursion (TakesBelow total) fs
    second [] fs all = all
    second (e ∷ es) fs all = second es fs all.1

module _ (plan : List Application) (root total w : ℕ) where
  mutual
    reaches : (j : Key) (es : List Event) (k : Key) → Production plan w j es → IsReached plan root total j → has_claimed k es ≡ true → IsReached plan root total k
    reaches j es k (hit) r h = absurd (cc)
    reaches j _ k (made {es = es} gone p) r h = ⊎_elim
        (λ (e : same_key k j ≡ true). subst (IsReached plan root total) (sym (same_keys k j e)) r)
        (λ (e : has_claimed k (es ++ (leases plan w j.node ++ (eviction w gone ++ Publish w j ∷ []))) ≡ true). ⊎_elim
        (λ (f : has_claimed k es ≡ true). all_reach (input_keys plan j) es k p (λ i g. input r g) f)
        (λ (f : has_claimed k (leases plan w j.node ++ (eviction w gone ++ Publish w j ∷ [])) ≡ true). let bad : false ≡ true = sym (no_claim plan w j.node gone j k) ∙ f in absurd (cc))
        (parts k es (leases plan w j.node ++ (eviction w gone ++ Publish w j ∷ [])) e))
        (either (same_key k j) (has_claimed k (es ++ (leases plan w j.node ++ (eviction w gone ++ Publish w j ∷ [])))) h)

    all_reach : (js : List Key) (es : List Event) (k : Key) → Productions plan w js es → ((i : Key) → has i js ≡ true → IsReached plan root total i) → has_claimed k es ≡ true → IsReached plan root total k
    all_reach js es k (done) r h = absurd (cc)
    all_reach _ _ k (more {k = j} {ks = js} {es = es} {fs = fs} p q) r h = ⊎_elim
        (λ (e : has_claimed k es ≡ true). reaches j es k p (r j (or_true (same_key j j) (has j js) (inl (key_itself j)))) e)
        (λ (e : has_claimed k fs ≡ true). all_reach js fs k q (λ i g. r i (or_true (same_key i j) (has i js) (inr g))) e) (parts k es fs h)

  delivers_reach : (ns : List ℕ) (es : List Event) (k : Key) → Deliveries plan root w ns es → AllByRecursion (λ n. n < total) ns → has_claimed k es ≡ true → IsReached plan root total k
  delivers_reach ns es k none all h = absurd (cc)
  delivers_reach _ _ k (also {n = n} {ns = ns} {es = es} {fs = fs} p q) all h = ⊎_elim
      (λ (e : has_claimed k (Take w n ∷ (es ++ Deliver w n ∷ [])) ≡ true). ⊎_elim
      (λ (f : has_claimed k es ≡ true). reaches (frame_key root n) es k p (output all.0) f)
      (λ (f : has_claimed k (Deliver w n ∷ []) ≡ true). absurd (cc)) (parts k es (Deliver w n ∷ []) e))
      (λ (e : has_claimed k fs ≡ true). delivers_reach ns fs k q all.1 e) (parts k (Take w n ∷ (es ++ Deliver w n ∷ [])) fs h)

  -- the same, where a stop cut the work short
  mutual
    cut_reaches : (j : Key) (es closing : List Event) (k : Key) → CutShort plan w j es closing → IsReached plan root total j → has_claimed k es ≡ true → IsReached plan root total k
    cut_reaches j es closing k (refused) r h = absurd (cc)
    cut_reaches j _ _ k (inside {es = es} {closing = closing} p) r h = ⊎_elim
        (λ (e : same_key k j ≡ true). subst (IsReached plan root total) (sym (same_keys k j e)) r)
        (λ (e : has_claimed k es ≡ true). inputs_reach (input_keys plan j) es closing k p (λ i g. input r g) e) (either (same_key k j) (has_claimed k es) h)
    cut_reaches j _ _ k (entered {es = es} mode p) r h = ⊎_elim
        (λ (e : same_key k j ≡ true). subst (IsReached plan root total) (sym (same_keys k j e)) r)
        (λ (e : has_claimed k (es ++ Enter w j.node (instance_of plan w j.node) ∷ []) ≡ true). ⊎_elim
        (λ (f : has_claimed k es ≡ true). all_reach (input_keys plan j) es k p (λ i g. input r g) f)
        (λ (f : has_claimed k (Enter w j.node (instance_of plan w j.node) ∷ []) ≡ true). absurd (cc)) (parts k es (Enter w j.node (instance_of plan w j.node) ∷ []) e))
        (either (same_key k j) (has_claimed k (es ++ Enter w j.node (instance_of plan w j.node) ∷ [])) h)
    cut_reaches j _ _ k (unpublished {es = es} p) r h = ⊎_elim
        (λ (e : same_key k j ≡ true). subst (IsReached plan root total) (sym (same_keys k j e)) r)
        (λ (e : has_claimed k (es ++ leases plan w j.node) ≡ true). ⊎_elim
        (λ (f : has_claimed k es ≡ true). all_reach (input_keys plan j) es k p (λ i g. input r g) f)
        (λ (f : has_claimed k (leases plan w j.node) ≡ true). let bad : false ≡ true = sym (no_lease_claims plan w j.node k) ∙ f in absurd (cc)) (parts k es (leases plan w j.node) e))
        (either (same_key k j) (has_claimed k (es ++ leases plan w j.node)) h)

    inputs_reach : (all : List Key) (es closing : List Event) (k : Key) → CutInputs plan w all es closing → ((i : Key) → has i all ≡ true → IsReached plan root total i) → has_claimed k es ≡ true → IsReached plan root total k
    inputs_reach all es _ k (between {ks = ks} js is p) r h = all_reach ks es k p (λ i g. r i (subst (λ l. has i l ≡ true) (sym is) (has_first i ks js g))) h
    inputs_reach all _ _ k (within {ks = ks} {j = j} {es = es} {fs = fs} {closing = closing} js is p q) r h = ⊎_elim
        (λ (e : has_claimed k es ≡ true). all_reach ks es k p (λ i g. r i (subst (λ l. has i l ≡ true) (sym is) (has_first i ks (j ∷ js) g))) e)
        (λ (e : has_claimed k fs ≡ true). cut_reaches j fs closing k q (r j (subst (λ l. has j l ≡ true) (sym is) (has_itself j ks js))) e) (parts k es fs h)

  -- what closes the work claims nothing
  mutual
    closing_claims : (j : Key) (es closing : List Event) (k : Key) → CutShort plan w j es closing → has_claimed k closing ≡ true → ⊥
    closing_claims j es closing k (refused) h = cc h
    closing_claims j _ _ k (inside {es = es} {closing = closing} p) h = ⊎_elim
        (λ (e : has_claimed k closing ≡ true). inputs_closing (input_keys plan j) es closing k p e)
        (λ (e : has_claimed k (Abandon w j ∷ []) ≡ true). absurd (cc)) (parts k closing (Abandon w j ∷ []) h)
    closing_claims j _ _ k (entered mode p) h = absurd (cc)
    closing_claims j _ _ k (unpublished p) h = absurd (cc)

    inputs_closing : (all : List Key) (es closing : List Event) (k : Key) → CutInputs plan w all es closing → has_claimed k closing ≡ true → ⊥
    inputs_closing all es _ k (between js is p) h = absurd (cc)
    inputs_closing all _ _ k (within {j = j} {fs = fs} {closing = closing} js is p q) h = closing_claims j fs closing k q h

  last_below : (es : List Event) (n : ℕ) (fs : List Event) → AllByRecursion (TakesBelow total) (es ++ Take w n ∷ fs) → n < total
  last_below [] n fs all = all.0
  last_below (e ∷ es) n fs all = last_below es n fs all.1

  delivers_cut : (done closing : List Event) (k : Key) → CutDeliveries plan root w done closing → AllByRecursion (TakesBelow total) done → (has_claimed k done ≡ true) ⊎ (has_claimed k closing ≡ true) → IsReached plan root total k
  delivers_cut _ _ k (untaken {ns = ns} {es = es} p) all (inl h) = delivers_reach ns es k p (outputs_below total p all) h
  delivers_cut _ _ k (untaken p) all (inr h) = absurd (cc)
  delivers_cut _ _ k (taken {ns = ns} {es = es} {fs = fs} {closing = closing} {n = n} p q) all (inl h) = ⊎_elim
      (λ (e : has_claimed k es ≡ true). delivers_reach ns es k p (outputs_below total p (first_below total es (Take w n ∷ fs) all)) e)
      (λ (e : has_claimed k (Take w n ∷ fs) ≡ true). cut_reaches (frame_key root n) fs closing k q (output (last_below es n fs all)) e) (parts k es (Take w n ∷ fs) h)
  delivers_cut _ _ k (taken {fs = fs} {closing = closing} {n = n} p q) all (inr h) = absurd (closing_claims (frame_key root n) fs closing k q h)

pub work_reaches : WorkReaches
work_reaches plan root w total ns events k works all h = delivers_reach plan root total w ns events k works all h

pub cut_work_reaches : CutWorkReaches
cut_work_reaches plan root w total so_far closing k cut all h = delivers_cut plan root total w so_far closing k cut all (parts k so_far closing h)
