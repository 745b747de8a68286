-- Someone can always go on.
use Rattle.std.proofs.Common.{◌≡◌, ◌⊎◌, inl, inr, ℕ, zero, suc, ◌+◌, ◌-◌, ◌<◌, ◌≤◌, ◌==◌, nat_lt, Bool, true, false, not, ◌||◌, ◌&&◌, if◌then◌else◌, List, [], ◌∷◌, ◌++◌, length, map, get_or, replicate, slice_get, Option, Some, None, refl, sym, ap, ◌∙◌, arith, subst, ⊎_elim, eq-eqb, ne_eqb}
use Rattle.std.specs.Prelude.{is_some, take}
use Rattle.std.specs.Cmp.Derive.{both_true}
use Rattle.std.specs.List.{list_any}
use Rattle.std.specs.Map.{lookup, set_value}
use Rattle.std.proofs.lemmas.Bool.{lt-ltb, le-ltb, cases_lt, eqb-true}
use Rattle.std.proofs.lemmas.List.{append-nil, length-take}
use Rattle.std.proofs.lemmas.Option.{slice_get_within, slice_get-get_or}
use Rattle.std.proofs.Math.ListN.{length-set}
use Rattle.fv_plane.specs.declared.key.Key.{Key}
use Rattle.clip_graph.specs.Plan.{input_keys}
use Rattle.frame_cache.specs.Cached.{same_key, at_key, has_key, dropped_key}
use Rattle.frame_cache.proofs.CallerLemmas.{key_itself, some_dropped}
use Rattle.inst_table.specs.declared.place.Place.{Place}
use Rattle.inst_table.specs.Places.{same_place}
use Rattle.serve_machine.specs.declared.event.Event.{Event}
use Rattle.serve_machine.specs.declared.event.Event.TheVariants.{Hit, Claim, Enter, Leave, Evict, Publish, Abandon, Take, Deliver, Fail}
use Rattle.serve_machine.specs.Events.{worker_of, IsKey, has, frame_key, mode_at, instance_of, has_got, has_got_all, own_events}
use Rattle.serve_machine.specs.SerialRun.{eviction}
use Rattle.serve_machine.specs.Work.{untaken, none as no_deliveries, nothing}
use Rattle.serve_machine.proofs.KeyLemmas.{test, left_true, right_true}
use Rattle.serve_machine.specs.Machine.{State, is_key, place_named, claims_at, is_open, is_some_and, is_by, is_running, with_told, got_at, gathered, Machine, meets, allowed, change, replay}
use Rattle.serve_machine.specs.Holdings.{Holdings, claims_of, leases_of, outputs_of, holdings_of, own_holdings, IsToldBy}
use Rattle.serve_machine.specs.Law.{start_of, worker_at}
use Rattle.serve_machine.proofs.KeptLemmas.{Keys, keys_law}
use Rattle.serve_machine.proofs.LawLemmas.{no_claims}
use Rattle.serve_machine.proofs.TruthLemmas.{some_same, some_value}
use Rattle.run_moves.specs.Moves.{InWork, midway, newest_node}
use Rattle.run_moves.specs.Waiting.{IsNewest, AllInWork, Needs, input, output, Waits, for_frame, for_instance, node_of}
use Rattle.run_moves.specs.Moving.{IsTurn, single, evicts, CanRender, IsUnderWay, Moves, GoesOn, moves, waits, rests, SomeoneMoves}
use Rattle.run_moves.proofs.HoldLemmas.{Falls}
use Rattle.run_moves.proofs.WaitLemmas.{has_low, own_none, in_work, told, seat, has_claim, leased_at, held_at, height, lower, goes_down}
use Rattle.run_moves.proofs.NextLemmas.{IsWanted, by_claim, by_output, Next, asks, enters, leaves, publishes, NextTurn, produces, delivers, takes, next_turn}

-- LISTS

pub own_append : (w : ℕ) (es fs : List Event) → own_events w (es ++ fs) ≡ own_events w es ++ own_events w fs
own_append w [] fs = refl
own_append w (e ∷ es) fs = let ih = own_append w es fs in ⊎_elim
    (λ (b : (worker_of e == w) ≡ true). rw b (ap (λ x. e ∷ x) ih))
    (λ (b : (worker_of e == w) ≡ false). rw b ih) (test (worker_of e == w))

own_turn : (w : ℕ) (turn : List Event) → IsTurn w turn → own_events w turn ≡ turn
own_turn w _ (single {e = e} is) = rw (eq-eqb (worker_of e) w is) refl
own_turn w _ (evicts) = rw (eq-eqb w w refl) refl

other_turn : (w v : ℕ) (turn : List Event) → IsTurn w turn → (w == v) ≡ false → own_events v turn ≡ []
other_turn w v _ (single {e = e} is) other = rw (subst (λ u. (u == v) ≡ false) (sym is) other) refl
other_turn w v _ (evicts) other = rw other refl

claims_there : (w : ℕ) (k : Key) (cs : List (Key × ℕ)) → has k (claims_of w cs) ≡ true → claims_at w k.node cs ≡ true
claims_there w k [] h = absurd (cc)
claims_there w k (c ∷ cs) h = ⊎_elim
    (λ (mine : (c.1 == w) ≡ true).
    let h' : (same_key k c.0 || has k (claims_of w cs)) ≡ true = rw mine at h in ⊎_elim
    (λ (e : same_key k c.0 ≡ true).
    let node = eqb-true k.node (c.0).node (left_true (k.node == (c.0).node) (k.n == (c.0).n) e) in
    rw mine (rw (eq-eqb (c.0).node k.node (sym node)) refl))
    (λ (e : same_key k c.0 ≡ false). let ih = claims_there w k cs (rw e at h') in
    elim ((c.1 == w) && (c.0).node == k.node) as (λ b. (b || claims_at w k.node cs) ≡ true) [ true ↦ refl | false ↦ ih ]) (test (same_key k c.0)))
    (λ (other : (c.1 == w) ≡ false). rw other (claims_there w k cs (rw other at h))) (test (c.1 == w))

claims_any : (w : ℕ) (k : Key) (cs : List (Key × ℕ)) → has k (claims_of w cs) ≡ true → list_any (λ (c : Key × ℕ). c.1 == w) cs ≡ true
claims_any w k [] h = absurd (cc)
claims_any w k (c ∷ cs) h = ⊎_elim
    (λ (mine : (c.1 == w) ≡ true). rw mine refl)
    (λ (other : (c.1 == w) ≡ false). rw other (claims_any w k cs (rw other at h))) (test (c.1 == w))

-- an output that a worker took and has not delivered
output_there : {F : Type 0} → (w n j : ℕ) (taken : List ℕ) (frames : List (Option F)) → slice_get taken j ≡ Some w → slice_get frames j ≡ Some None → outputs_of w n taken frames ≡ [] → ⊥
output_there w n j [] frames took open' none = absurd (cc)
output_there w n j (v ∷ vs) [] took open' none = absurd (cc)
output_there w n zero (v ∷ vs) (f ∷ fs) took open' none =
    let mine : v ≡ w = some_same took in
    let free : f ≡ None = some_same open' in
    let both : (v == w && is_open f) ≡ true = rw free (rw (eq-eqb v w mine) refl) in
    let bad : n ∷ outputs_of w (n + 1) vs fs ≡ [] = rw both at none in absurd (cc)
output_there w n (suc j) (v ∷ vs) (f ∷ fs) took open' none = ⊎_elim
    (λ (b : (v == w && is_open f) ≡ true). let bad : n ∷ outputs_of w (n + 1) vs fs ≡ [] = rw b at none in absurd (cc))
    (λ (b : (v == w && is_open f) ≡ false). output_there w (n + 1) j vs fs took open' (rw b at none)) (test (v == w && is_open f))

-- a place stays there
set_kept : (t r : Place → Bool) (es : List (Place × Option ℕ)) (x : Option ℕ) → is_some (lookup t (set_value r es x)) ≡ is_some (lookup t es)
set_kept t r [] x = refl
set_kept t r (e ∷ es) x = ⊎_elim
    (λ (g : r e.0 ≡ true). rw g (elim (t e.0) as (λ b. is_some (if b then Some x else lookup t es) ≡ is_some (if b then Some e.1 else lookup t es)) [ true ↦ refl | false ↦ refl ]))
    (λ (g : r e.0 ≡ false). rw g (let ih = set_kept t r es x in elim (t e.0) as (λ b. is_some (if b then Some e.1 else lookup t (set_value r es x)) ≡ is_some (if b then Some e.1 else lookup t es)) [ true ↦ refl | false ↦ ih ])) (test (r e.0))

-- each place is free
abbrev all_free : List Place → List (Place × Option ℕ)
all_free places = map (λ p. (p, None)) places

opened : (t : Place → Bool) (places : List Place) → is_some (lookup t (all_free places)) ≡ list_any t places
opened t [] = refl
opened t (p ∷ ps) = let ih = opened t ps in elim (t p) as (λ b. is_some (if b then Some None else lookup t (all_free ps)) ≡ (b || list_any t ps)) [ true ↦ refl | false ↦ ih ]

module _ {F : Type 0} (m : Machine F) where
  -- A RUN GOES ON

  run_on : (es fs : List Event) (s t : State F) → replay m s es ≡ Some t → replay m s (es ++ fs) ≡ replay m t fs
  run_on [] fs s t ran = ap (λ z. replay m z fs) (some_same ran)
  run_on (e ∷ es) fs s t ran = ⊎_elim
      (λ (ok : allowed m s e ≡ true). rw ok (run_on es fs (change m s e) t (rw ok at ran)))
      (λ (bad : allowed m s e ≡ false). let nowhere : None ≡ Some t = rw bad at ran in absurd (cc)) (test (allowed m s e))

  places_step : (t : Place → Bool) (s : State F) (e : Event) → is_some (lookup t (change m s e).places) ≡ is_some (lookup t s.places)
  places_step t s (Hit w k) = refl
  places_step t s (Claim w k) = refl
  places_step t s (Enter w i j) = set_kept t (same_place (place_named m.fixed.plan i j)) s.places (Some w)
  places_step t s (Leave w i j) = set_kept t (same_place (place_named m.fixed.plan i j)) s.places None
  places_step t s (Evict w k) = refl
  places_step t s (Publish w k) = refl
  places_step t s (Abandon w k) = refl
  places_step t s (Take w n) = refl
  places_step t s (Deliver w n) = refl
  places_step t s (Fail w why) = refl

  places_kept : (t : Place → Bool) (es : List Event) (s r : State F) → replay m s es ≡ Some r → is_some (lookup t r.places) ≡ is_some (lookup t s.places)
  places_kept t [] s r ran = ap (λ (x : State F). is_some (lookup t x.places)) (sym (some_same ran))
  places_kept t (e ∷ es) s r ran = ⊎_elim
      (λ (ok : allowed m s e ≡ true). places_kept t es (change m s e) r (rw ok at ran) ∙ places_step t s e)
      (λ (bad : allowed m s e ≡ false). let nowhere : None ≡ Some r = rw bad at ran in absurd (cc)) (test (allowed m s e))

  frames_step : (s : State F) (e : Event) → length (change m s e).frames ≡ length s.frames
  frames_step s (Hit w k) = refl
  frames_step s (Claim w k) = refl
  frames_step s (Enter w i j) = refl
  frames_step s (Leave w i j) = refl
  frames_step s (Evict w k) = refl
  frames_step s (Publish w k) = refl
  frames_step s (Abandon w k) = refl
  frames_step s (Take w n) = refl
  frames_step s (Deliver w n) = length-set s.frames (n - m.fixed.first) _
  frames_step s (Fail w why) = refl

  pub frames_kept : (es : List Event) (s t : State F) → replay m s es ≡ Some t → length t.frames ≡ length s.frames
  frames_kept [] s t ran = ap (λ (x : State F). length x.frames) (sym (some_same ran))
  frames_kept (e ∷ es) s t ran = ⊎_elim
      (λ (ok : allowed m s e ≡ true). frames_kept es (change m s e) t (rw ok at ran) ∙ frames_step s e)
      (λ (bad : allowed m s e ≡ false). let nowhere : None ≡ Some t = rw bad at ran in absurd (cc)) (test (allowed m s e))

  gathered_all : (w : ℕ) (ks : List Key) (own : List Event) (s : State F) → ((k : Key) → has_got w k own ≡ is_some (got_at w k s.got)) → has_got_all w ks own ≡ true
      → is_some (gathered w ks s.got) ≡ true
  gathered_all w [] own s tells all = refl
  gathered_all w (k ∷ ks) own s tells all = joined (got_at w k s.got) (gathered w ks s.got) (sym (tells k) ∙ left_true _ _ all) (gathered_all w ks own s tells (right_true _ _ all))
    where
      joined : (a : Option F) (b : Option (List F)) → is_some a ≡ true → is_some b ≡ true → is_some (with_told a b) ≡ true
      joined None b h g = absurd (cc)
      joined (Some x) None h g = absurd (cc)
      joined (Some x) (Some xs) h g = refl

  module _ (cache : List (Key × F)) (places : List Place) (events : List Event) (s : State F) (can : CanRender m cache places) (under : IsUnderWay m cache places events s) where
    abbrev nodes : ℕ
    nodes = length m.fixed.plan

    -- EVENTS THAT ARE ALLOWED

    running : is_running s ≡ true
    running = rw under.running refl

    may : (e : Event) → worker_of e < m.fixed.workers → meets m s e ≡ true → allowed m s e ≡ true
    may e less ok = rw under.settled (both_true (lt-ltb (worker_of e) m.fixed.workers less) ok)

    keys : Keys m s.cache s.claims
    keys = keys_law m events (start_of m cache places) s (no_claims m cache can.differ can.few) under.runs

    frames_are : length s.frames ≡ m.fixed.count
    frames_are = frames_kept events (start_of m cache places) s under.runs ∙ counted m.fixed.count
      where
        counted : (n : ℕ) → length (replicate {A = Option F} n None) ≡ n
        counted zero = refl
        counted (suc n) = ap suc (counted n)

    work_of : (w : ℕ) → InWork m.fixed.plan m.fixed.root w (own_events w events)
    work_of w = in_work m cache places events s can.plan can.root under.runs under.work w

    tells : (w : ℕ) → IsToldBy m (own_events w events) s w
    tells w = told m cache places events s can.plan can.root under.runs under.work w

    abbrev height_of : ℕ → ℕ
    height_of w = height m cache places events s can.plan can.root under.runs under.work w

    -- the events after a turn are work again
    works_on : (w : ℕ) (turn : List Event) → IsTurn w turn → InWork m.fixed.plan m.fixed.root w (own_events w events ++ turn) → AllInWork m (events ++ turn)
    works_on w turn is goes v less = ⊎_elim
        (λ (b : (w == v) ≡ true). subst (λ u. InWork m.fixed.plan m.fixed.root u (own_events u (events ++ turn))) (eqb-true w v b)
        (subst (InWork m.fixed.plan m.fixed.root w) (sym (own_append w events turn ∙ ap (λ x. own_events w events ++ x) (own_turn w turn is))) goes))
        (λ (b : (w == v) ≡ false). subst (InWork m.fixed.plan m.fixed.root v)
        (sym (own_append v events turn ∙ (ap (λ x. own_events v events ++ x) (other_turn w v turn is b) ∙ append-nil (own_events v events)))) (work_of v)) (test (w == v))

    -- one event is a turn
    one : (w : ℕ) (e : Event) → worker_of e ≡ w → w < m.fixed.workers → meets m s e ≡ true → (change m s e).stop ≡ s.stop → (change m s e).awaits ≡ None
        → InWork m.fixed.plan m.fixed.root w (own_events w events ++ e ∷ []) → Moves m cache places events s w
    one w e mine less ok stop settled goes = record {
      turn = e ∷ [];
      is_turn = single mine;
      after = change m s e;
      goes_on = record {
        runs = run_on events (e ∷ []) (start_of m cache places) s under.runs ∙ goes_one;
        work = works_on w (e ∷ []) (single mine) goes;
        running = stop ∙ under.running;
        settled = settled;
      };
    }
      where
        goes_one : replay m s (e ∷ []) ≡ Some (change m s e)
        goes_one = rw (may e (subst (λ u. u < m.fixed.workers) (sym mine) less) ok) refl

    -- an eviction and a publication
    two : (w : ℕ) (gone k : Key) → w < m.fixed.workers → meets m s (Evict w gone) ≡ true → meets m (change m s (Evict w gone)) (Publish w k) ≡ true
        → InWork m.fixed.plan m.fixed.root w (own_events w events ++ Evict w gone ∷ Publish w k ∷ []) → Moves m cache places events s w
    two w gone k less ok then' goes = record {
      turn = Evict w gone ∷ Publish w k ∷ [];
      is_turn = evicts;
      after = change m (change m s (Evict w gone)) (Publish w k);
      goes_on = record {
        runs = run_on events (Evict w gone ∷ Publish w k ∷ []) (start_of m cache places) s under.runs ∙ goes_two;
        work = works_on w (Evict w gone ∷ Publish w k ∷ []) evicts goes;
        running = under.running;
        settled = refl;
      };
    }
      where
        second : allowed m (change m s (Evict w gone)) (Publish w k) ≡ true
        second = both_true (eq-eqb w w refl) (both_true (lt-ltb w m.fixed.workers less) then')

        goes_two : replay m s (Evict w gone ∷ Publish w k ∷ []) ≡ Some (change m (change m s (Evict w gone)) (Publish w k))
        goes_two = rw (may (Evict w gone) less ok) (rw second refl)

    -- WHAT A WORKER DOES NEXT

    abbrev own_of : ℕ → Holdings
    own_of w = own_holdings m.fixed.plan (own_events w events)

    abbrev Goes : ℕ → List Event → Type 0
    Goes w fs = InWork m.fixed.plan m.fixed.root w (own_events w events ++ fs)

    -- a worker can take a turn, or waits
    abbrev MovesOrWaits : ℕ → Type 0
    MovesOrWaits w = Moves m cache places events s w ⊎ ((v : ℕ) × Waits m s w v)

    newest_of : (w i : ℕ) → newest_node nodes (own_of w).claims ≡ i → node_of m s w ≡ i
    newest_of w i at = ap (λ (g : Holdings). newest_node nodes g.claims) (sym (tells w).holdings) ∙ at

    unclaimed : (w : ℕ) (k : Key) → k.node < newest_node nodes (own_of w).claims → has k (own_of w).claims ≡ false
    unclaimed w k less = ⊎_elim
        (λ (e : has k (own_of w).claims ≡ true).
        let falls : Falls nodes (own_of w).claims = subst (λ (g : Holdings). Falls nodes g.claims) (sym (tells w).holdings) ((seat m cache places events s can.plan can.root under.runs under.work w).holds).falls in
        let low = has_low nodes k (own_of w).claims falls e in absurd (omega (arith, low, less)))
        (λ (e : has k (own_of w).claims ≡ false). e) (test (has k (own_of w).claims))

    needed_by : (w : ℕ) (k : Key) → IsWanted m.fixed.plan m.fixed.root (own_of w).claims k → Needs m s w k
    needed_by w k wanted = go k (subst (λ (g : Holdings). IsWanted m.fixed.plan m.fixed.root g.claims k) (tells w).holdings wanted)
      where
        go : (k : Key) → IsWanted m.fixed.plan m.fixed.root (claims_of w s.claims) k → Needs m s w k
        go k (by_claim new among) = input new among
        go _ (by_output free) = output free

    ask : (w : ℕ) → w < m.fixed.workers → (k : Key) → IsKey m.fixed.plan k → k.node < newest_node nodes (own_of w).claims → IsWanted m.fixed.plan m.fixed.root (own_of w).claims k → (own_of w).leases ≡ [] → Goes w (Hit w k ∷ []) → Goes w (Claim w k ∷ []) → MovesOrWaits w
    ask w less k is low wanted unlent h c =
        let none = unclaimed w k low in
        let not_mine : is_by w (at_key k s.claims) ≡ false = sym ((tells w).claim k) ∙ none in
        ⊎_elim
        (λ (cached : has_key k s.cache ≡ true). inl (one w (Hit w k) refl less (both_true (both_true cached (rw not_mine refl)) running) refl under.settled h))
        (λ (uncached : has_key k s.cache ≡ false). ⊎_elim
        (λ (by : has_key k s.claims ≡ true).
        let found = some_value (at_key k s.claims) by in
        inr (found.0, for_frame (subst (λ (g : Holdings). g.leases ≡ []) (tells w).holdings unlent) (needed_by w k wanted) found.1))
        (λ (free : has_key k s.claims ≡ false).
        let key : is_key m.fixed.plan k ≡ true = both_true (lt-ltb k.node (length m.fixed.plan) is.node) (lt-ltb k.n _ is.number) in
        inl (one w (Claim w k) refl less (both_true (both_true (both_true key (rw uncached refl)) (rw free refl)) running) refl under.settled c)) (test (has_key k s.claims)))
        (test (has_key k s.cache))

    -- the place of the instance that a worker needs at a node
    abbrev place_of : ℕ → ℕ → Place
    place_of w i = place_named m.fixed.plan i (instance_of m.fixed.plan w i)

    enter : (w : ℕ) → w < m.fixed.workers → (k : Key) → k.node < nodes → IsNewest k (own_of w).claims → has k (own_of w).claims ≡ true → (own_of w).leases ≡ []
        → (mode_at m.fixed.plan k.node ≡ 1 → ⊥) → Goes w (Enter w k.node (instance_of m.fixed.plan w k.node) ∷ []) → MovesOrWaits w
    enter w less k there new has' free needed e =
        let found = some_value (lookup (same_place (place_of w k.node)) s.places) is_there in go found.0 found.1
      where
        is_there : is_some (lookup (same_place (place_of w k.node)) s.places) ≡ true
        is_there = places_kept (same_place (place_of w k.node)) events (start_of m cache places) s under.runs ∙ (opened (same_place (place_of w k.node)) places ∙ can.instances w k.node less there needed)

        go : (o : Option ℕ) → lookup (same_place (place_of w k.node)) s.places ≡ Some o → MovesOrWaits w
        go None is =
            let claims = claims_there w k s.claims (subst (λ (g : Holdings). has k g.claims ≡ true) (tells w).holdings has') in
            let mode : not (mode_at m.fixed.plan k.node == 1) ≡ true = rw (ne_eqb (mode_at m.fixed.plan k.node) 1 needed) refl in
            let lent : is_some_and is_open (lookup (same_place (place_of w k.node)) s.places) ≡ true = rw is refl in
            inl (one w (Enter w k.node (instance_of m.fixed.plan w k.node)) refl less
            (both_true (both_true (both_true (both_true (both_true claims ((tells w).idle free)) mode) (eq-eqb (instance_of m.fixed.plan w k.node) (instance_of m.fixed.plan w k.node) refl)) lent) running) refl under.settled e)
        go (Some v) is =
            let unlent : leases_of w s.places ≡ [] = subst (λ (g : Holdings). g.leases ≡ []) (tells w).holdings free in
            inr (v, for_instance (subst (λ (g : Holdings). IsNewest k g.claims) (tells w).holdings new) unlent (ap worker_at is))

    publish : (w : ℕ) → w < m.fixed.workers → (k : Key) → has k (own_of w).claims ≡ true → (own_of w).leases ≡ [] → has_got_all w (input_keys m.fixed.plan k) (own_events w events) ≡ true
        → ((gone : Option Key) → Goes w (eviction w gone ++ Publish w k ∷ [])) → Moves m cache places events s w
    publish w less k has' free all e =
        let mine : is_by w (at_key k s.claims) ≡ true = sym ((tells w).claim k) ∙ has' in
        let idle = (tells w).idle free in
        let got = gathered_all w (input_keys m.fixed.plan k) (own_events w events) s (tells w).got all in
        let most = keys.bounded in
        ⊎_elim
        (λ (room : length s.cache < m.fixed.capacity). one w (Publish w k) refl less (both_true (both_true (both_true mine idle) got) (lt-ltb (length s.cache) m.fixed.capacity room)) refl refl (e None))
        (λ (full : m.fixed.capacity ≤ length s.cache).
        let exact : length s.cache ≡ m.fixed.capacity = omega (arith, full, most) in
        let some = can.room in
        let gone = some_value (dropped_key m.fixed.capacity s.cache) (some_dropped m.fixed.capacity s.cache some exact) in
        let any = claims_any w k s.claims (subst (λ (g : Holdings). has k g.claims ≡ true) (tells w).holdings has') in
        let last : is_some_and (same_key gone.0) (dropped_key m.fixed.capacity s.cache) ≡ true = ap (is_some_and (same_key gone.0)) gone.1 ∙ key_itself gone.0 in
        let short : length (take (m.fixed.capacity - 1) s.cache) < m.fixed.capacity = let l = length-take (m.fixed.capacity - 1) s.cache in omega (arith, l, exact, some) in
        two w gone.0 k less (both_true (both_true (both_true any idle) (eq-eqb (length s.cache) m.fixed.capacity exact)) last)
        (both_true (both_true (both_true mine idle) got) (lt-ltb (length (take (m.fixed.capacity - 1) s.cache)) m.fixed.capacity short)) (e (Some gone.0))) (cases_lt (length s.cache) m.fixed.capacity)

    produce : (w : ℕ) → w < m.fixed.workers → (P : Type 0) → P → Next m.fixed.plan m.fixed.root w P (own_of w) (own_events w events) (Goes w) → MovesOrWaits w
    produce w less P premise (asks k is low wanted free h c) = ask w less k (is premise) low wanted free h c
    produce w less P premise (enters k there new at has' free needed e) = enter w less k there new has' free needed e
    produce w less P premise (leaves k lent e) =
        let p : Place = place_named m.fixed.plan k.node (instance_of m.fixed.plan w k.node) in
        let held : lookup (same_place p) s.places ≡ Some (Some w) = (tells w).lease p lent in
        inl (one w (Leave w k.node (instance_of m.fixed.plan w k.node)) refl less (ap (is_some_and (is_by w)) held ∙ eq-eqb w w refl) refl under.settled e)
    produce w less P premise (publishes k has' free all e) = inl (publish w less k has' free all e)

    gone_on : (w : ℕ) → MovesOrWaits w → GoesOn m cache places events s w
    gone_on w (inl it) = moves it
    gone_on w (inr other) = waits other.1

    turn_of : (w : ℕ) → w < m.fixed.workers → NextTurn m.fixed.plan m.fixed.root w (own_of w) (own_events w events) (Goes w) → GoesOn m cache places events s w
    turn_of w less (produces n has' next) =
        let out = (tells w).output n has' in
        let within = slice_get_within s.frames (n - m.fixed.first) None out.undelivered in
        let size = frames_are in let low = out.low in let all = can.outputs in
        gone_on w (produce w less (IsKey m.fixed.plan (frame_key m.fixed.root n)) (record { node = can.root; number = omega (arith, within, size, low, all) }) next)
    turn_of w less (delivers n has' got e) =
        let out = (tells w).output n has' in
        let first : not (nat_lt n m.fixed.first) ≡ true = rw (le-ltb n m.fixed.first out.low) refl in
        let mine : is_by w (slice_get s.taken (n - m.fixed.first)) ≡ true = ap (is_by w) out.taken ∙ eq-eqb w w refl in
        let free : is_some_and is_open (slice_get s.frames (n - m.fixed.first)) ≡ true = ap (is_some_and is_open) out.undelivered in
        let there : is_some (got_at w (frame_key m.fixed.root n) s.got) ≡ true = sym ((tells w).got (frame_key m.fixed.root n)) ∙ got in
        moves (one w (Deliver w n) refl less (both_true (both_true (both_true first mine) free) there) refl under.settled e)
    turn_of w less (takes none e) = ⊎_elim
        (λ (more : length s.taken < m.fixed.count).
        let n = m.fixed.first + length s.taken in
        moves (one w (Take w n) refl less (both_true (both_true (eq-eqb n n refl) (lt-ltb (length s.taken) m.fixed.count more)) running) refl under.settled (e n)))
        (λ (past : m.fixed.count ≤ length s.taken). rests (sym (tells w).holdings ∙ none) past) (cases_lt (length s.taken) m.fixed.count)

    pub each : (w : ℕ) → w < m.fixed.workers → GoesOn m cache places events s w
    each w less = turn_of w less (next_turn m.fixed.plan m.fixed.root w can.plan can.root (own_events w events) (work_of w))

    -- a worker has something, or an output may be taken
    abbrev HasSome : ℕ → Type 0
    HasSome w = holdings_of m.fixed s w ≡ nothing → ⊥

    abbrev Busy : ℕ → Type 0
    Busy w = (length s.taken < m.fixed.count) ⊎ HasSome w

    -- who is waited for has something
    waited : (w v : ℕ) → Waits m s w v → HasSome v
    waited w v (for_frame {k = k} free needs at) empty =
        let there = has_claim m cache places events s can.plan can.root under.runs under.work v k at in
        let bad : false ≡ true = sym (ap (λ (g : Holdings). has k g.claims) empty) ∙ there in absurd (cc)
    waited w v (for_instance {k = k} new free held) empty =
        let found = leased_at m cache places events s can.plan can.root under.runs under.work w v k.node (held_at (lookup (same_place (place_of w k.node)) s.places) v held) in
        let bad : [] ≡ place_of w k.node ∷ [] = ap (λ (g : Holdings). g.leases) (sym empty) ∙ found.0 in absurd (cc)

    -- a busy worker is one of the window's
    busy_within : (v : ℕ) → HasSome v → v < m.fixed.workers
    busy_within v busy = ⊎_elim (λ (less : v < m.fixed.workers). less)
        (λ (past : m.fixed.workers ≤ v). absurd (busy (sym (tells v).holdings ∙ ap (own_holdings m.fixed.plan) (own_none m v past events (start_of m cache places) s under.runs)))) (cases_lt v m.fixed.workers)

    abbrev Someone : Type 0
    Someone = (w : ℕ) × Moves m cache places events s w

    step : (w : ℕ) → Busy w → ((v : ℕ) → height_of v < height_of w → HasSome v → Someone) → GoesOn m cache places events s w → Someone
    step w busy again (moves it) = (w, it)
    step w busy again (waits {v = v} on) =
        again v (lower m cache places events s can.plan can.root under.runs under.work w v (goes_down m cache places events s can.plan can.root under.runs under.work w v on)) (waited w v on)
    step w (inl more) again (rests none past) = absurd (omega (arith, more, past))
    step w (inr busy) again (rests none past) = absurd (busy none)

    -- from a busy worker to the one that it waits for, until one can take a turn
    move : (most w : ℕ) → height_of w < most → w < m.fixed.workers → Busy w → Someone
    move zero w low less busy = absurd (omega (arith, low))
    move (suc most) w low less busy = step w busy (λ v less' some. move most v (omega (arith, less', low)) (busy_within v some) (inr some)) (each w less)

    pub someone : (j : ℕ) → slice_get s.frames j ≡ Some None → Someone
    someone j undelivered = ⊎_elim
        (λ (more : length s.taken < m.fixed.count). move (suc (height_of 0)) 0 (omega arith) can.someone (inl more))
        (λ (past : m.fixed.count ≤ length s.taken).
        let within = slice_get_within s.frames j None undelivered in let size = frames_are in
        let w = get_or s.taken j 0 in
        let took : slice_get s.taken j ≡ Some w = slice_get-get_or s.taken j 0 (omega (arith, within, size, past)) in
        let busy : HasSome w = λ none.
        output_there w m.fixed.first j s.taken s.frames took undelivered (ap (λ (g : Holdings). g.outputs) none) in
        move (suc (height_of w)) w (omega arith) (busy_within w busy) (inr busy)) (cases_lt (length s.taken) m.fixed.count)

begins : {F : Type 0} → (m : Machine F) (cache : List (Key × F)) (places : List Place) → IsUnderWay m cache places [] (start_of m cache places)
begins m cache places = record { runs = refl; work = λ w less. midway (untaken no_deliveries); running = refl; settled = refl }

pub someone_moves : (F : Type 0) → SomeoneMoves F
someone_moves F = record {
  begins = λ m cache places. begins m cache places;
  each = λ m cache places events s w can under less. each m cache places events s can under w less;
  someone = λ m cache places events s j can under undelivered. someone m cache places events s can under j undelivered;
}
