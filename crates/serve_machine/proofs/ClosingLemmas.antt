-- What the work of a worker leaves open, by its own events.
use Rattle.std.proofs.Common.{◌≡◌, ℕ, ◌+◌, ◌-◌, ◌<◌, ◌≤◌, ◌==◌, true, false, if◌then◌else◌, List, [], ◌∷◌, ◌++◌, length, Option, Some, None, sym, refl, ap, ◌∙◌, subst, ⊎_elim, eq-eqb, ne_eqb, append_assoc, arith}
use Rattle.std.specs.Cmp.Derive.{both_true}
use Rattle.std.specs.List.{AllByRecursion}
use Rattle.std.proofs.lemmas.List.{append-nil}
use Rattle.std.proofs.lemmas.List.Elements.{All-weaker, recursion_from_All}
use Rattle.fv_plane.specs.declared.key.Key.{Key}
use Rattle.clip_graph.specs.Plan.{Application, IsPlan, input_keys, IsKeyBelow}
use Rattle.clip_graph.proofs.UnfoldingLemmas.{inputs_are_keys}
use Rattle.serve_machine.specs.declared.event.Event.{Event}
use Rattle.serve_machine.specs.declared.event.Event.TheVariants.{Enter, Leave, Publish, Abandon, Take, Deliver}
use Rattle.serve_machine.specs.declared.event.WindowStop.{WindowStop}
use Rattle.serve_machine.specs.Events.{frame_key, same_key, without, mode_at, instance_of, has_got, has_got_all}
use Rattle.serve_machine.specs.SerialRun.{eviction, leases}
use Rattle.serve_machine.specs.Work.{Production, hit, made, Productions, done, more, CutShort, refused, inside, entered, unpublished, CutInputs, between, within, Deliveries, none, also, CutDeliveries, untaken, taken, AllPast, abandons, nothing, IsIdle, WorkCloses}
use Rattle.serve_machine.proofs.KeyLemmas.{test, left_true, right_true, same_keys, key_itself}
use Rattle.serve_machine.proofs.OwnLemmas.{was_got, now_got, hit_got, publish_got}
use Rattle.serve_machine.specs.Holdings.{Holdings, next_holdings, holdings_after, own_holdings}
use Rattle.serve_machine.specs.Machine.{stop_of, earlier, first_stop}

-- Events after events.

pub holdings_after-append : (plan : List Application) (h : Holdings) (es fs : List Event) → holdings_after plan h (es ++ fs) ≡ holdings_after plan (holdings_after plan h es) fs
holdings_after-append plan h [] fs = refl
holdings_after-append plan h (e ∷ es) fs = holdings_after-append plan (next_holdings plan h e) es fs

-- what was got after other events; `all_got` of `OwnLemmas` is of what was got before others
pub now_all_got : (w : ℕ) (ks : List Key) (es fs : List Event) → has_got_all w ks fs ≡ true → has_got_all w ks (es ++ fs) ≡ true
now_all_got w [] es fs h = refl
now_all_got w (k ∷ ks) es fs h = both_true (now_got w k es fs (left_true _ _ h)) (now_all_got w ks es fs (right_true _ _ h))

pub first_stop-append : (es fs : List Event) → first_stop (es ++ fs) ≡ earlier (first_stop es) (first_stop fs)
first_stop-append [] fs = refl
first_stop-append (e ∷ es) fs = ap (earlier (stop_of e)) (first_stop-append es fs) ∙ joined (stop_of e)
  where
    joined : (o : Option WindowStop) → earlier o (earlier (first_stop es) (first_stop fs)) ≡ earlier (earlier o (first_stop es)) (first_stop fs)
    joined None = refl
    joined (Some why) = refl

pub none_stop : (es fs : List Event) → first_stop es ≡ None → first_stop fs ≡ None → first_stop (es ++ fs) ≡ None
none_stop es fs h g = first_stop-append es fs ∙ (ap (λ o. earlier o (first_stop fs)) h ∙ g)

-- the newest claim is given up first
pub abandons-append : (w : ℕ) (ks : List Key) (k : Key) → abandons w (ks ++ k ∷ []) ≡ Abandon w k ∷ abandons w ks
abandons-append w [] k = refl
abandons-append w (j ∷ ks) k = ap (λ es. es ++ Abandon w j ∷ []) (abandons-append w ks k)

-- All claims are given up.

-- how often a key is among others
abbrev one_at : Key → Key → ℕ
one_at j k = if same_key j k then 1 else 0

abbrev copies : Key → List Key → ℕ
copies j [] = 0
copies j (k ∷ ks) = one_at j k + copies j ks

copies_without : (j k : Key) (cs : List Key) → copies j (without k cs) ≤ copies j cs - one_at j k
copies_without j k [] = omega arith
copies_without j k (c ∷ cs) = let ih = copies_without j k cs in ⊎_elim
    (λ (e : same_key k c ≡ true). rw e (let same : one_at j k ≡ one_at j c = ap (one_at j) (same_keys k c e) in omega (arith, same)))
    (λ (e : same_key k c ≡ false). rw e (⊎_elim
    (λ (g : same_key j k ≡ true). let one : one_at j k ≡ 1 = rw g refl in let other : one_at j c ≡ 0 = rw (subst (λ i. same_key i c ≡ false) (sym (same_keys j k g)) e) refl in omega (arith, ih, one, other))
    (λ (g : same_key j k ≡ false). let other : one_at j k ≡ 0 = rw g refl in omega (arith, ih, other)) (test (same_key j k))))
    (test (same_key k c))

-- some keys without others, the newest of these first
abbrev without_all : List Key → List Key → List Key
without_all [] cs = cs
without_all (k ∷ ks) cs = without k (without_all ks cs)

copies_left : (j : Key) (ks cs : List Key) → copies j (without_all ks cs) ≤ copies j cs - copies j ks
copies_left j [] cs = omega arith
copies_left j (k ∷ ks) cs = let ih = copies_left j ks cs in let less = copies_without j k (without_all ks cs) in omega (arith, ih, less)

none_left : (cs : List Key) → ((j : Key) → copies j cs ≤ 0) → cs ≡ []
none_left [] h = refl
none_left (c ∷ cs) h = let none = h c in let one : one_at c c ≡ 1 = rw (key_itself c) refl in absurd (omega (arith, none, one))

module _ (plan : List Application) (w : ℕ) where
  after_abandons : (ks : List Key) (h : Holdings) → holdings_after plan h (abandons w ks) ≡ record h { claims = without_all ks h.claims }
  after_abandons [] h = refl
  after_abandons (k ∷ ks) h =
      holdings_after-append plan h (abandons w ks) (Abandon w k ∷ []) ∙ ap (λ (g : Holdings). record g { claims = without k g.claims }) (after_abandons ks h)

  -- a worker that gives up all its claims has no claim, and the rest as before
  pub all_abandoned : (h : Holdings) → holdings_after plan h (abandons w h.claims) ≡ record h { claims = [] }
  all_abandoned h = after_abandons h.claims h
      ∙ ap (λ cs. record h { claims = cs }) (none_left (without_all h.claims h.claims) (λ j. let left = copies_left j h.claims h.claims in omega (arith, left)))

-- Claims at a node and later ones.

abbrev AllFrom : ℕ → List Key → Type 0
AllFrom i keys = AllByRecursion (λ k. i ≤ k.node) keys

past_of_from : (i j : ℕ) (ks : List Key) → j < i → AllFrom i ks → AllPast j ks
past_of_from i j [] less all = tt
past_of_from i j (k ∷ ks) less all = let here = all.0 in (omega (arith, here, less), past_of_from i j ks less all.1)

from_past : (i : ℕ) (ks : List Key) → AllPast i ks → AllFrom i ks
from_past i [] all = tt
from_past i (k ∷ ks) all = let here = all.0 in (omega (arith, here), from_past i ks all.1)

from_push : (k : Key) (ks : List Key) → AllPast k.node ks → AllFrom k.node (ks ++ k ∷ [])
from_push k [] all = (omega arith, tt)
from_push k (j ∷ ks) all = let here = all.0 in (omega (arith, here), from_push k ks all.1)

-- claims past a node are past an earlier one, also with one claim more
pub past_before : (i j : ℕ) (ks : List Key) → j ≤ i → AllPast i ks → AllPast j ks
past_before i j [] less all = tt
past_before i j (k ∷ ks) less all = let here = all.0 in (omega (arith, here, less), past_before i j ks less all.1)

pub past_push : (i : ℕ) (k : Key) (ks : List Key) → i < k.node → AllPast i ks → AllPast i (ks ++ k ∷ [])
past_push i k [] less all = (less, tt)
past_push i k (j ∷ ks) less all = (all.0, past_push i k ks less all.1)

-- a claim past which all others are is the first of its key
pub without_newest : (k : Key) (ks : List Key) → AllPast k.node ks → without k (ks ++ k ∷ []) ≡ ks
without_newest k [] all = rw (key_itself k) refl
without_newest k (j ∷ ks) all = let here = all.0 in
    let apart : (k.node == j.node) ≡ false = ne_eqb k.node j.node (λ e. omega (arith, here, e)) in
    rw apart (ap (λ l. j ∷ l) (without_newest k ks all.1))

-- the holdings with one claim more
abbrev claimed : Holdings → Key → Holdings
claimed h k = record h { claims = h.claims ++ k ∷ [] }

closed_claim : (h : Holdings) (k : Key) → AllPast k.node h.claims → record (claimed h k) { claims = without k (claimed h k).claims } ≡ h
closed_claim h k all = ap (λ cs. record h { claims = cs }) (without_newest k h.claims all)

-- the claims are at a node and later ones, and no instance is out
record IsFree (i : ℕ) (h : Holdings) : Type 0 where
  claims : AllFrom i h.claims
  unlent : h.leases ≡ []

idle_of_free : (i j : ℕ) (h : Holdings) → j < i → IsFree i h → IsIdle j h
idle_of_free i j h less free = record { past = past_of_from i j h.claims less free.claims; unlent = free.unlent }

free_claimed : (k : Key) (h : Holdings) → IsIdle k.node h → IsFree k.node (claimed h k)
free_claimed k h idle = record { claims = from_push k h.claims idle.past; unlent = idle.unlent }

free_of_idle : (i : ℕ) (h : Holdings) → IsIdle i h → IsFree i h
free_of_idle i h idle = record { claims = from_past i h.claims idle.past; unlent = idle.unlent }

-- keys of earlier nodes
abbrev AllBelow : ℕ → List Key → Type 0
AllBelow i ks = AllByRecursion (λ k. k.node < i) ks

-- What a production leaves.

module _ (plan : List Application) (w : ℕ) where
  after_leases : (i : ℕ) (h : Holdings) → h.leases ≡ [] → holdings_after plan h (leases plan w i) ≡ h
  after_leases i h unlent = elim (mode_at plan i == 1) as
      (λ b. holdings_after plan h (if b then [] else Enter w i (instance_of plan w i) ∷ Leave w i (instance_of plan w i) ∷ []) ≡ h)
      [ true ↦ refl | false ↦ λ z. record h { leases = sym unlent z } ]

  after_publish : (gone : Option Key) (k : Key) (h : Holdings) → holdings_after plan h (eviction w gone ++ Publish w k ∷ []) ≡ record h { claims = without k h.claims }
  after_publish None k h = refl
  after_publish (Some j) k h = refl

  module _ (is : IsPlan plan) where
    inputs_below : (k : Key) → k.node < length plan → AllBelow k.node (input_keys plan k)
    inputs_below k there = recursion_from_All (λ j. j.node < k.node) (input_keys plan k)
        (All-weaker (IsKeyBelow plan k.node) (λ j. j.node < k.node) (λ j below. below.node) (input_keys plan k) (inputs_are_keys plan k is there))

    mutual
      production : (k : Key) (es : List Event) (h : Holdings) → k.node < length plan → IsIdle k.node h → Production plan w k es → holdings_after plan h es ≡ h
      production k es h there idle (hit) = refl
      production k _ h there idle (made {es = es} gone p) =
          let rest = eviction w gone ++ Publish w k ∷ [] in
          holdings_after-append plan (claimed h k) es (leases plan w k.node ++ rest)
          ∙ (ap (λ g. holdings_after plan g (leases plan w k.node ++ rest)) (productions k.node (input_keys plan k) es (claimed h k) (omega arith) (inputs_below k there) (free_claimed k h idle) p)
          ∙ (holdings_after-append plan (claimed h k) (leases plan w k.node) rest
          ∙ (ap (λ g. holdings_after plan g rest) (after_leases k.node (claimed h k) idle.unlent)
          ∙ (after_publish gone k (claimed h k) ∙ closed_claim h k idle.past))))

      productions : (i : ℕ) (ks : List Key) (es : List Event) (h : Holdings) → i ≤ length plan → AllBelow i ks → IsFree i h → Productions plan w ks es → holdings_after plan h es ≡ h
      productions i ks es h few below free (done) = refl
      productions i _ _ h few below free (more {k = k} {ks = ks} {es = es} {fs = fs} p q) =
          let less = below.0 in
          holdings_after-append plan h es fs
          ∙ (ap (λ g. holdings_after plan g fs) (production k es h (omega (arith, less, few)) (idle_of_free i k.node h less free) p)
          ∙ productions i ks fs h few below.1 free q)

    deliveries : (root : ℕ) (ns : List ℕ) (es : List Event) → root < length plan → Deliveries plan root w ns es → own_holdings plan es ≡ nothing
    deliveries root ns es there none = refl
    deliveries root _ _ there (also {n = n} {ns = ns} {es = es} {fs = fs} p q) =
        let took = record nothing { outputs = n ∷ [] } in
        holdings_after-append plan took (es ++ Deliver w n ∷ []) fs
        ∙ (ap (λ g. holdings_after plan g fs) (holdings_after-append plan took es (Deliver w n ∷ [])
        ∙ (ap (λ g. holdings_after plan g (Deliver w n ∷ [])) (production (frame_key root n) es took there (record { past = tt; unlent = refl }) p)
        ∙ rw (eq-eqb n n refl) refl))
        ∙ deliveries root ns fs there q)

    -- Work that was cut short.

    -- what closes the work gives up the claim that the work begins with
    after_abandon : (k : Key) (es closing : List Event) (h : Holdings) → IsIdle k.node h → holdings_after plan (claimed h k) (es ++ closing) ≡ claimed h k
        → holdings_after plan (claimed h k) (es ++ (closing ++ Abandon w k ∷ [])) ≡ h
    after_abandon k es closing h idle closes =
        ap (holdings_after plan (claimed h k)) (sym (append_assoc es closing (Abandon w k ∷ [])))
        ∙ (holdings_after-append plan (claimed h k) (es ++ closing) (Abandon w k ∷ [])
        ∙ (ap (λ g. holdings_after plan g (Abandon w k ∷ [])) closes ∙ closed_claim h k idle.past))

    inputs : (k : Key) (es : List Event) (h : Holdings) → k.node < length plan → IsIdle k.node h → Productions plan w (input_keys plan k) es → holdings_after plan (claimed h k) es ≡ claimed h k
    inputs k es h there idle p = productions k.node (input_keys plan k) es (claimed h k) (omega arith) (inputs_below k there) (free_claimed k h idle) p

    all_left : (i : ℕ) (ks js all : List Key) → all ≡ ks ++ js → AllBelow i all → AllBelow i ks
    all_left i [] js all e below = tt
    all_left i (k ∷ ks) js all e below = let b : AllBelow i (k ∷ (ks ++ js)) = subst (AllBelow i) e below in (b.0, all_left i ks js (ks ++ js) refl b.1)

    all_right : (i : ℕ) (ks : List Key) (j : Key) (js all : List Key) → all ≡ ks ++ j ∷ js → AllBelow i all → j.node < i
    all_right i [] j js all e below = let b : AllBelow i (j ∷ js) = subst (AllBelow i) e below in b.0
    all_right i (k ∷ ks) j js all e below = let b : AllBelow i (k ∷ (ks ++ j ∷ js)) = subst (AllBelow i) e below in all_right i ks j js (ks ++ j ∷ js) refl b.1

    mutual
      cut_short : (k : Key) (es closing : List Event) (h : Holdings) → k.node < length plan → IsIdle k.node h → CutShort plan w k es closing → holdings_after plan h (es ++ closing) ≡ h
      cut_short k es closing h there idle (refused) = refl
      cut_short k _ _ h there idle (inside {es = es} {closing = closing} c) =
          after_abandon k es closing h idle (cut_inputs k.node (input_keys plan k) es closing (claimed h k) (omega arith) (inputs_below k there) (free_claimed k h idle) c)
      cut_short k _ _ h there idle (entered {es = es} instance_needed p) =
          let i = k.node in let j = instance_of plan w k.node in
          ap (holdings_after plan (claimed h k)) (append_assoc es (Enter w i j ∷ []) (Leave w i j ∷ Abandon w k ∷ []))
          ∙ after_abandon k es (Enter w i j ∷ Leave w i j ∷ []) h idle
          (holdings_after-append plan (claimed h k) es (Enter w i j ∷ Leave w i j ∷ [])
          ∙ (ap (λ g. holdings_after plan g (Enter w i j ∷ Leave w i j ∷ [])) (inputs k es h there idle p) ∙ (λ z. record (claimed h k) { leases = sym idle.unlent z })))
      cut_short k _ _ h there idle (unpublished {es = es} p) =
          ap (holdings_after plan (claimed h k)) (append_assoc es (leases plan w k.node) (Abandon w k ∷ []))
          ∙ after_abandon k es (leases plan w k.node) h idle
          (holdings_after-append plan (claimed h k) es (leases plan w k.node)
          ∙ (ap (λ g. holdings_after plan g (leases plan w k.node)) (inputs k es h there idle p) ∙ after_leases k.node (claimed h k) idle.unlent))

      cut_inputs : (i : ℕ) (all : List Key) (es closing : List Event) (h : Holdings) → i ≤ length plan → AllBelow i all → IsFree i h → CutInputs plan w all es closing → holdings_after plan h (es ++ closing) ≡ h
      cut_inputs i all es _ h few below free (between {ks = ks} js is p) =
          ap (holdings_after plan h) (append-nil es) ∙ productions i ks es h few (all_left i ks js all is below) free p
      cut_inputs i all _ _ h few below free (within {ks = ks} {j = j} {es = es} {fs = fs} {closing = closing} js is p c) =
          let less = all_right i ks j js all is below in
          ap (holdings_after plan h) (append_assoc es fs closing)
          ∙ (holdings_after-append plan h es (fs ++ closing)
          ∙ (ap (λ g. holdings_after plan g (fs ++ closing)) (productions i ks es h few (all_left i ks (j ∷ js) all is below) free p)
          ∙ cut_short j fs closing h (omega (arith, less, few)) (idle_of_free i j.node h less free) c))

    -- work that was cut short leaves no claim and no instance, whatever it leaves of outputs
    cut_deliveries : (root : ℕ) (es closing : List Event) → root < length plan → CutDeliveries plan root w es closing
        → (outputs : List ℕ) × (own_holdings plan (es ++ closing) ≡ record nothing { outputs = outputs })
    cut_deliveries root es _ there (untaken {ns = ns} p) = ([], ap (own_holdings plan) (append-nil es) ∙ deliveries root ns es there p)
    cut_deliveries root _ _ there (taken {ns = ns} {es = es} {fs = fs} {closing = closing} {n = n} p c) =
        let took = record nothing { outputs = n ∷ [] } in (
          n ∷ [],
          ap (own_holdings plan) (append_assoc es (Take w n ∷ fs) closing)
              ∙ (holdings_after-append plan nothing es (Take w n ∷ (fs ++ closing))
              ∙ (ap (λ g. holdings_after plan g (Take w n ∷ (fs ++ closing))) (deliveries root ns es there p)
              ∙ cut_short (frame_key root n) fs closing took there (record { past = tt; unlent = refl }) c)),
        )

-- What a production gives, and that it has no stop.

module _ (plan : List Application) (w : ℕ) where
  pub produced_got : (k : Key) (es : List Event) → Production plan w k es → has_got w k es ≡ true
  produced_got k es (hit) = hit_got w k
  produced_got k _ (made {es = es} gone p) =
      let rest = eviction w gone ++ Publish w k ∷ [] in
      now_got w k es (leases plan w k.node ++ rest) (now_got w k (leases plan w k.node) rest (publish_got w k gone))

  pub produced_all_got : (ks : List Key) (es : List Event) → Productions plan w ks es → has_got_all w ks es ≡ true
  produced_all_got ks es (done) = refl
  produced_all_got _ _ (more {k = k} {ks = ks} {es = es} {fs = fs} p q) =
      both_true (was_got w k es fs (produced_got k es p)) (now_all_got w ks es fs (produced_all_got ks fs q))

  leases_none : (i : ℕ) → first_stop (leases plan w i) ≡ None
  leases_none i = elim (mode_at plan i == 1) as (λ b. first_stop (if b then [] else Enter w i (instance_of plan w i) ∷ Leave w i (instance_of plan w i) ∷ []) ≡ None) [ true ↦ refl | false ↦ refl ]

  publish_none : (gone : Option Key) (k : Key) → first_stop (eviction w gone ++ Publish w k ∷ []) ≡ None
  publish_none None k = refl
  publish_none (Some j) k = refl

  mutual
    pub produced_none : (k : Key) (es : List Event) → Production plan w k es → first_stop es ≡ None
    produced_none k es (hit) = refl
    produced_none k _ (made {es = es} gone p) =
        let rest = eviction w gone ++ Publish w k ∷ [] in
        none_stop es (leases plan w k.node ++ rest) (all_none (input_keys plan k) es p) (none_stop (leases plan w k.node) rest (leases_none k.node) (publish_none gone k))

    pub all_none : (ks : List Key) (es : List Event) → Productions plan w ks es → first_stop es ≡ None
    all_none ks es (done) = refl
    all_none _ _ (more {k = k} {ks = ks} {es = es} {fs = fs} p q) = none_stop es fs (produced_none k es p) (all_none ks fs q)

pub work_closes : WorkCloses
work_closes = record {
  production = λ plan w k es h is there idle p. production plan w is k es h there idle p;
  productions = λ plan w i ks es h is few below idle p. productions plan w is i ks es h few below (free_of_idle i h idle) p;
  got = λ plan w k es p. produced_got plan w k es p;
  got_all = λ plan w ks es p. produced_all_got plan w ks es p;
  running = λ plan w k es p. produced_none plan w k es p;
  deliveries = λ plan root w ns es is there p. deliveries plan w is root ns es there p;
  cut_claims = λ plan root w es closing is there p. ap (λ (h : Holdings). h.claims) (cut_deliveries plan w is root es closing there p).1;
  cut_leases = λ plan root w es closing is there p. ap (λ (h : Holdings). h.leases) (cut_deliveries plan w is root es closing there p).1;
}
