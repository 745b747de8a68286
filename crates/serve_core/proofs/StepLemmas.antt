-- Each call of a core is a step of the machine.
use Rattle.std.proofs.Common.{◌≡◌, ℕ, ◌-◌, ◌<◌, ◌≤◌, ◌==◌, nat_lt, true, false, not, ◌&&◌, ◌||◌, List, [], ◌∷◌, ◌++◌, map, length, take, set, slice_get, Option, Some, None, sym, refl, ap, ◌∙◌, subst, inl, ⊎_elim, eq-eqb, ne_eqb, append_assoc, arith}
use Rattle.std.specs.Prelude.{is_some, option_map, min}
use Rattle.std.specs.Cmp.Derive.{both_true}
use Rattle.std.specs.List.{list_any, IsDistinct}
use Rattle.std.specs.Map.{keys_of, lookup, set_value}
use Rattle.std.proofs.lemmas.Bool.{ltb-true, ltb-false}
use Rattle.std.proofs.lemmas.Bool.Decides.{Decides-ltb}
use Rattle.std.proofs.lemmas.List.{length-map, length-take, map-set, take_all}
use Rattle.std.proofs.lemmas.Option.{slice_get-map}
use Rattle.fv_plane.specs.Picture.{Picture}
use Rattle.fv_plane.specs.declared.key.Key.{Key}
use Rattle.clip_graph.specs.Plan.{Application, application_at, input_keys}
use Rattle.frame_cache.specs.Cached.{same_key, at_key, has_key, without_key, dropped_key}
use Rattle.frame_cache.proofs.CallerLemmas.{test, left_true, right_true, key_itself, none_dropped, some_dropped}
use Rattle.inst_table.specs.declared.place.Place.{Place}
use Rattle.inst_table.specs.declared.place.Slot.{Slot}
use Rattle.inst_table.specs.declared.place.Slot.TheVariants.{Free, Leased}
use Rattle.inst_table.specs.Lent.{Lent}
use Rattle.inst_table.specs.Places.{same_place, slot_at, with_slot}
use Rattle.serve_machine.specs.declared.event.Event.{Event}
use Rattle.serve_machine.specs.declared.event.Event.TheVariants.{Hit, Claim, Enter, Leave, Evict, Publish, Abandon, Take, Deliver, Fail}
use Rattle.serve_machine.specs.declared.event.WindowStop.{WindowStop}
use Rattle.serve_machine.specs.declared.event.WindowStop.TheVariants.{Read, Changed, Memory}
use Rattle.serve_machine.specs.Events.{worker_of, IsKey, frame_key, mode_at, has_got, has_got_all, may_fail, names_source}
use Rattle.serve_machine.specs.SerialRun.{eviction}
use Rattle.serve_core.specs.declared.answers.Ask.TheVariants.{Hit as Found, Claimed}
use Rattle.serve_core.specs.declared.answers.Admitted.TheVariants.{Leased as Lends}
use Rattle.serve_core.specs.CoreValue.{CoreValue}
use Rattle.serve_core.specs.Calls.{Asked, Admits, after_leave, after_publish, after_abandon, TookOutput, next_output, after_deliver, after_fail, after_begin}
use Rattle.serve_core.specs.Holds.{claims_at, holds_none}
use Rattle.serve_core.specs.Sources.{place_of}
use Rattle.serve_core.specs.Kept.{leases_out}
use Rattle.serve_core.specs.Runs.{holder, AreMeant, keys_alone, opening_of, state_of, IsRun}
use Rattle.serve_core.proofs.Places.{at_set, not_free, some_same}
use Rattle.serve_machine.specs.Machine.{Fixed, State, opening, place_named, is_open, is_some_and, is_by, holds_nothing, noted, is_running, got_at, gathered, Machine, may_stop, meets, allowed, change, replay}
use Rattle.serve_machine.specs.Law.{seen, bare, keys_machine}
use Rattle.serve_machine.proofs.GotLemmas.{got_law, gathered_law, entered_law}
use Rattle.serve_machine.proofs.TruthLemmas.{some_value}
use Rattle.serve_machine.proofs.SeenLemmas.{lookup_seen, set_seen, take_seen, keys_seen, none_seen, fronted_seen, length_seen}

replay_more : {F : Type 0} → (m : Machine F) (events : List Event) (e : Event) (s t : State F) → replay m s events ≡ Some t → allowed m t e ≡ true
    → replay m s (events ++ e ∷ []) ≡ Some (change m t e)
replay_more m [] e s t ran ok =
    let same : s ≡ t = cc in
    let ok' : allowed m s e ≡ true = subst (λ z. allowed m z e ≡ true) (sym same) ok in
    rw ok' (ap (λ z. Some (change m z e)) same)
replay_more m (d ∷ ds) e s t ran ok = ⊎_elim
    (λ (h : allowed m s d ≡ true). rw h (replay_more m ds e (change m s d) t (rw h at ran) ok))
    (λ (h : allowed m s d ≡ false). let bad : None ≡ Some t = rw h at ran in absurd (cc)) (test (allowed m s d))

below : (a b : ℕ) → a < b → nat_lt a b ≡ true
below a b h = (Decides-ltb a b).1 h

not_below : (a b : ℕ) → b ≤ a → not (nat_lt a b) ≡ true
not_below a b h = ⊎_elim
    (λ (e : nat_lt a b ≡ true). let less : a < b = (Decides-ltb a b).0 e in absurd (omega arith))
    (λ (e : nat_lt a b ≡ false). ap not e) (test (nat_lt a b))

-- who it is
is_its : (o : Option ℕ) (w : ℕ) → o ≡ Some w → is_by w o ≡ true
is_its o w h = ap (is_by w) h ∙ eq-eqb w w refl

is_not : (o : Option ℕ) (w : ℕ) → (o ≡ Some w → ⊥) → is_by w o ≡ false
is_not None w h = refl
is_not (Some v) w h = ne_eqb v w (λ e. h (ap Some e))

any_at : (k : Key) (w : ℕ) (cs : List (Key × ℕ)) → at_key k cs ≡ Some w → list_any (λ c. c.1 == w) cs ≡ true
any_at k w [] h = absurd (cc)
any_at k w (c ∷ cs) h = ⊎_elim
    (λ (e : same_key k c.0 ≡ true). let is : Some c.1 ≡ Some w = rw e at h in rw (eq-eqb c.1 w (some_same is)) refl)
    (λ (e : same_key k c.0 ≡ false). let ih = any_at k w cs (rw e at h) in elim (c.1 == w) as (λ b. (b || list_any (λ (c : Key × ℕ). c.1 == w) cs) ≡ true) [ true ↦ refl | false ↦ ih ])
    (test (same_key k c.0))

-- the place of an event
named : (plan : List Application) (p : Place) (w : ℕ) → p ≡ place_of plan w p.node → place_named plan p.node p.instance ≡ p
named plan p w h = let shared = sym (ap (λ (z : Place). z.shared) h) in λ i. record { node = p.node; instance = p.instance; shared = shared i }

abbrev out_with : {I : Type 0} → ℕ → Slot I
out_with w = Leased w

module _ {I : Type 0} (plan : List Application) (table : List (Place × Slot I)) (meant : AreMeant plan table) where
  lent_meant : (w i : ℕ) → AreMeant plan (with_slot (place_of plan w i) (Leased w) table)
  lent_meant w i p v h = ⊎_elim
      (λ (e : slot_at p table ≡ Some (Leased v)). meant p v e)
      (λ (e : (p ≡ place_of plan w i) × (out_with {I = I} w ≡ out_with v)).
      let node = sym (ap (λ (z : Place). z.node) e.0) in let worker : w ≡ v = some_same (ap (holder {I = I}) e.1) in
      e.0 ∙ (λ k. place_of plan (worker k) (node k)))
      (at_set p (place_of plan w i) (Leased w) (Leased v) table h)

  back_meant : (p : Place) (x : I) → AreMeant plan (with_slot p (Free x) table)
  back_meant p x q v h = ⊎_elim
      (λ (e : slot_at q table ≡ Some (Leased v)). meant q v e)
      (λ (e : (q ≡ p) × (Free x ≡ Leased v)). absurd (not_free (sym e.1)))
      (at_set q p (Free x) (Leased v) table h)

module _ {I : Type 0} where
  -- who has the places
  pub held_as : (w : ℕ) (es : List (Place × Slot I)) → holds_nothing w (seen holder es) ≡ holds_none w es
  held_as w [] = refl
  held_as w ((p, Free x) ∷ es) = held_as w es
  held_as w ((p, Leased v) ∷ es) = ap (λ b. not (v == w) && b) (held_as w es)

  all_idle : (es : List (Place × Slot I)) → leases_out es ≡ 0 → map (λ p. (p, None)) (keys_of es) ≡ seen holder es
  all_idle [] none = refl
  all_idle ((p, Free x) ∷ es) none = ap (λ l. (p, None) ∷ l) (all_idle es none)
  all_idle ((p, Leased w) ∷ es) none = absurd (omega (arith, none))

  none_out : (p : Place) (w : ℕ) (es : List (Place × Slot I)) → leases_out es ≡ 0 → slot_at p es ≡ Some (Leased w) → ⊥
  none_out p w [] none h = absurd (cc)
  none_out p w ((q, Free x) ∷ es) none h = ⊎_elim
      (λ (e : same_place p q ≡ true). let is : Some (Free x) ≡ Some (Leased w) = rw e at h in not_free (sym (some_same is)))
      (λ (e : same_place p q ≡ false). none_out p w es none (rw e at h)) (test (same_place p q))
  none_out p w ((q, Leased v) ∷ es) none h = absurd (omega (arith, none))

  -- from any start
  pub record RunsFrom (start : State (Unit {0})) (c : CoreValue I) : Type 0 where
    pub got : List ((ℕ × Key) × Unit {0})
    pub entered : List (ℕ × ℕ)
    pub runs : replay (keys_machine c.fixed) start c.journal ≡ Some (state_of c got entered)
    pub meant : AreMeant c.fixed.plan c.table

module _ {I : Type 0} {start : State (Unit {0})} {c : CoreValue I} (r : RunsFrom start c) where
  abbrev machine : Machine (Unit {0})
  machine = keys_machine c.fixed

  abbrev now : State (Unit {0})
  now = state_of c r.got r.entered

  -- one event more
  ran : (e : Event) → worker_of e < c.fixed.workers → meets machine now e ≡ true
      → replay machine start (c.journal ++ e ∷ []) ≡ Some (change machine now e)
  ran e less ok = replay_more machine c.journal e start now r.runs (both_true refl (both_true (below (worker_of e) c.fixed.workers less) ok))

  -- what the core says, the state says
  running : c.stop ≡ None → is_running now ≡ true
  running h = ap (λ o. not (is_some o)) h

  cached : (k : Key) → at_key k (seen bare c.cache) ≡ option_map bare (at_key k c.cache)
  cached k = lookup_seen bare (same_key k) c.cache

  lent : (p : Place) → lookup (same_place p) (seen holder c.table) ≡ option_map holder (slot_at p c.table)
  lent p = lookup_seen holder (same_place p) c.table

  hands : (w : ℕ) → holds_none w c.table ≡ true → holds_nothing w (seen holder c.table) ≡ true
  hands w h = held_as w c.table ∙ h

  pub claim_step : (d : CoreValue I) (w : ℕ) (k : Key) → w < c.fixed.workers → IsKey c.fixed.plan k → Asked c w k Claimed d → RunsFrom start d
  claim_step d w k less is asked = subst (RunsFrom start) (sym asked.3) (
      let key = both_true (below k.node (length c.fixed.plan) is.node) (below k.n (application_at c.fixed.plan k.node).info.frames is.number) in
      let uncached : not (has_key k (seen bare c.cache)) ≡ true = ap (λ o. not (is_some o)) (cached k ∙ ap (option_map bare) asked.1) in
      let unclaimed : not (has_key k c.claims) ≡ true = ap (λ o. not (is_some o)) asked.2 in
      record {
        got = r.got;
        entered = r.entered;
        runs = ran (Claim w k) less (both_true (both_true (both_true key uncached) unclaimed) (running asked.0));
        meant = r.meant;
      })

  pub hit_step : (d : CoreValue I) (w : ℕ) (k : Key) (x : Picture) → w < c.fixed.workers → (at_key k c.claims ≡ Some w → ⊥) → Asked c w k (Found x) d → RunsFrom start d
  hit_step d w k x less other asked = subst (RunsFrom start) (sym asked.2) (
      let found : at_key k (seen bare c.cache) ≡ Some (bare x) = cached k ∙ ap (option_map bare) asked.1 in
      let front = sym (fronted_seen bare k c.cache) in
      record {
        got = ((w, k), bare x) ∷ r.got;
        entered = r.entered;
        runs = ran (Hit w k) less (both_true (both_true (ap is_some found) (ap not (is_not (at_key k c.claims) w other))) (running asked.0))
            ∙ (λ i. Some (record now { cache = front i; got = noted (w, k) (found i) r.got }));
        meant = r.meant;
      })

  pub abandon_step : (d : CoreValue I) (w : ℕ) (k : Key) → w < c.fixed.workers → at_key k c.claims ≡ Some w → d ≡ after_abandon c w k → RunsFrom start d
  abandon_step d w k less mine is = subst (RunsFrom start) (sym is) (record {
    got = r.got;
    entered = r.entered;
    runs = ran (Abandon w k) less (is_its (at_key k c.claims) w mine);
    meant = r.meant;
  })

  pub take_step : (d : CoreValue I) (w n : ℕ) → w < c.fixed.workers → TookOutput c w (Some n) d → RunsFrom start d
  take_step d w n less took = subst (RunsFrom start) (sym took.3) (record {
    got = r.got;
    entered = r.entered;
    runs = ran (Take w n) less (both_true (both_true (eq-eqb n (next_output c) took.2) (below (length c.outputs.taken) c.fixed.count took.1)) (running took.0));
    meant = r.meant;
  })

  pub enter_step : (d : CoreValue I) (w i : ℕ) (l : Lent I) → w < c.fixed.workers → (mode_at c.fixed.plan i ≡ 1 → ⊥) → claims_at w i c.claims ≡ true
      → holds_none w c.table ≡ true → Admits c w i (Lends l) d → RunsFrom start d
  enter_step d w i l less busy claim empty adm = subst (RunsFrom start) (sym adm.3) (
      let p : Place = place_of c.fixed.plan w i in
      let idle : is_some_and is_open (lookup (same_place p) (seen holder c.table)) ≡ true = ap (is_some_and is_open) (lent p ∙ ap (option_map holder) adm.2) in
      let out = sym (set_seen holder (same_place p) c.table (Leased w)) in
      record {
        got = r.got;
        entered = (w, i) ∷ r.entered;
        runs = ran (Enter w i p.instance) less (both_true (both_true (both_true (both_true (both_true claim (hands w empty))
            (ap not (ne_eqb (mode_at c.fixed.plan i) 1 busy))) (eq-eqb p.instance p.instance refl)) idle) (running adm.0))
            ∙ (λ k. Some (record now { places = out k; entered = (w, i) ∷ r.entered }));
        meant = lent_meant c.fixed.plan c.table r.meant w i;
      })

  pub leave_step : (d : CoreValue I) (w : ℕ) (p : Place) (x : I) → w < c.fixed.workers → slot_at p c.table ≡ Some (Leased w) → d ≡ after_leave c w p x → RunsFrom start d
  leave_step d w p x less at is = subst (RunsFrom start) (sym is) (
      let q : Place = place_named c.fixed.plan p.node p.instance in
      let same : q ≡ p = named c.fixed.plan p w (r.meant p w at) in
      let mine : is_some_and (is_by w) (lookup (same_place q) (seen holder c.table)) ≡ true =
      ap (λ z. is_some_and (is_by w) (lookup (same_place z) (seen holder c.table))) same
      ∙ (ap (is_some_and (is_by w)) (lent p ∙ ap (option_map holder) at) ∙ eq-eqb w w refl) in
      let back = ap (λ z. set_value (same_place z) (seen holder c.table) None) same ∙ sym (set_seen holder (same_place p) c.table (Free x)) in
      record {
        got = r.got;
        entered = r.entered;
        runs = ran (Leave w p.node p.instance) less mine ∙ (λ k. Some (record now { places = back k }));
        meant = back_meant c.fixed.plan c.table r.meant p x;
      })

  pub deliver_step : (d : CoreValue I) (w n : ℕ) (x : Picture) → w < c.fixed.workers → c.fixed.first ≤ n → slice_get c.outputs.taken (n - c.fixed.first) ≡ Some w
      → slice_get c.outputs.frames (n - c.fixed.first) ≡ Some None → has_got w (frame_key c.fixed.root n) c.journal ≡ true
      → d ≡ after_deliver c w n x → RunsFrom start d
  deliver_step d w n x less low mine undelivered got is = subst (RunsFrom start) (sym is) (
      let at : ℕ = n - c.fixed.first in
      let frames : List (Option (Unit {0})) = map (option_map bare) c.outputs.frames in
      let own : is_by w (slice_get c.outputs.taken at) ≡ true = is_its (slice_get c.outputs.taken at) w mine in
      let free : is_some_and is_open (slice_get frames at) ≡ true =
      ap (is_some_and is_open) (slice_get-map (option_map bare) c.outputs.frames at ∙ ap (option_map (option_map bare)) undelivered) in
      let has : is_some (got_at w (frame_key c.fixed.root n) r.got) ≡ true = got_law machine w (frame_key c.fixed.root n) c.journal start now r.runs (inl got) in
      let y = some_value (got_at w (frame_key c.fixed.root n) r.got) has in
      let put = ap (set frames at) y.1 ∙ sym (map-set (option_map bare) c.outputs.frames at (Some x)) in
      record {
        got = r.got;
        entered = r.entered;
        runs = ran (Deliver w n) less (both_true (both_true (both_true (not_below n c.fixed.first low) own) free) has)
            ∙ (λ k. Some (record now { frames = put k }));
        meant = r.meant;
      })

  -- the frame of a publication
  made_is : (w : ℕ) (k : Key) → has_got_all w (input_keys c.fixed.plan k) c.journal ≡ true → option_map (machine.make k) (gathered w (input_keys c.fixed.plan k) r.got) ≡ Some tt
  made_is w k got =
      let xs = some_value (gathered w (input_keys c.fixed.plan k) r.got) (gathered_law machine w (input_keys c.fixed.plan k) c.journal start now r.runs got) in
      ap (option_map (machine.make k)) xs.1

  -- into a cache that has room
  pub publish_step : (d : CoreValue I) (w : ℕ) (k : Key) (x : Picture) → w < c.fixed.workers → at_key k c.claims ≡ Some w → holds_none w c.table ≡ true
      → has_got_all w (input_keys c.fixed.plan k) c.journal ≡ true → length c.cache < c.fixed.capacity
      → d ≡ after_publish c w k x → RunsFrom start d
  publish_step d w k x less mine empty got room is = subst (RunsFrom start) (sym (is ∙ roomy)) (
      let has = gathered_law machine w (input_keys c.fixed.plan k) c.journal start now r.runs got in
      let made = made_is w k got in
      let same : length (seen bare c.cache) ≡ length c.cache = length_seen bare c.cache in
      let short = below (length (seen bare c.cache)) c.fixed.capacity (omega arith) in
      record {
        got = ((w, k), bare x) ∷ r.got;
        entered = r.entered;
        runs = ran (Publish w k) less (both_true (both_true (both_true (is_its (at_key k c.claims) w mine) (hands w empty)) has) short)
            ∙ (λ i. Some (record now { cache = noted k (made i) (seen bare c.cache); claims = without_key k c.claims; got = noted (w, k) (made i) r.got }));
        meant = r.meant;
      })
    where
      roomy : after_publish c w k x ≡ record c { cache = (k, x) ∷ c.cache; claims = without_key k c.claims; journal = c.journal ++ Publish w k ∷ [] }
      roomy =
          let all = take_all (c.fixed.capacity - 1) c.cache (omega arith) in
          let none = none_dropped c.fixed.capacity c.cache room in
          λ i. record c { cache = (k, x) ∷ all i; claims = without_key k c.claims; journal = c.journal ++ (eviction w (none i) ++ Publish w k ∷ []) }

  -- into a full cache: its last key goes first
  pub full_step : (d : CoreValue I) (w : ℕ) (k : Key) (x : Picture) → w < c.fixed.workers → at_key k c.claims ≡ Some w → holds_none w c.table ≡ true
      → has_got_all w (input_keys c.fixed.plan k) c.journal ≡ true → 0 < c.fixed.capacity → length c.cache ≡ c.fixed.capacity
      → d ≡ after_publish c w k x → RunsFrom start d
  full_step d w k x less mine empty got some full is =
      let gone = some_value (dropped_key c.fixed.capacity c.cache) (some_dropped c.fixed.capacity c.cache some full) in
      let j : Key = gone.0 in
      let short_cache : List (Key × Unit {0}) = take (c.fixed.capacity - 1) (seen bare c.cache) in
      let after : State (Unit {0}) = record now { cache = short_cache; awaits = Some w } in
      let same : length (seen bare c.cache) ≡ length c.cache = length_seen bare c.cache in
      let last : is_some_and (same_key j) (dropped_key c.fixed.capacity (seen bare c.cache)) ≡ true =
      ap (λ ks. is_some_and (same_key j) (slice_get ks (c.fixed.capacity - 1))) (keys_seen bare c.cache)
      ∙ (ap (is_some_and (same_key j)) gone.1 ∙ key_itself j) in
      let evicted : replay machine start (c.journal ++ Evict w j ∷ []) ≡ Some after =
      ran (Evict w j) less (both_true (both_true (both_true (any_at k w c.claims mine) (hands w empty)) (eq-eqb (length (seen bare c.cache)) c.fixed.capacity (same ∙ full))) last) in
      let has = gathered_law machine w (input_keys c.fixed.plan k) c.journal start now r.runs got in
      let made = made_is w k got in
      let fewer : length short_cache ≡ min (c.fixed.capacity - 1) (length (seen bare c.cache)) = length-take (c.fixed.capacity - 1) (seen bare c.cache) in
      let short = below (length short_cache) c.fixed.capacity (omega arith) in
      let ok : allowed machine after (Publish w k) ≡ true =
      both_true (eq-eqb w w refl) (both_true (below w c.fixed.workers less) (both_true (both_true (both_true (is_its (at_key k c.claims) w mine) (hands w empty)) has) short)) in
      let events : c.journal ++ (eviction w (dropped_key c.fixed.capacity c.cache) ++ Publish w k ∷ []) ≡ (c.journal ++ Evict w j ∷ []) ++ Publish w k ∷ [] =
      ap (λ o. c.journal ++ (eviction w o ++ Publish w k ∷ [])) gone.1 ∙ sym (append_assoc c.journal (Evict w j ∷ []) (Publish w k ∷ [])) in
      let kept = sym (take_seen bare (c.fixed.capacity - 1) c.cache) in
      subst (RunsFrom start) (sym is) (record {
        got = ((w, k), bare x) ∷ r.got;
        entered = r.entered;
        runs = ap (replay machine start) events ∙ (replay_more machine (c.journal ++ Evict w j ∷ []) (Publish w k) start after evicted ok
            ∙ (λ i. Some (record now { cache = noted k (made i) (kept i); claims = without_key k c.claims; got = noted (w, k) (made i) r.got })));
        meant = r.meant;
      })

  causes : (w : ℕ) (why : WindowStop) → may_fail w why c.journal ≡ true → may_stop machine now w why ≡ true
  causes w (Read i) h = entered_law machine w i c.journal start now r.runs (inl h)
  causes w (Changed i n want got) h =
      both_true (both_true (entered_law machine w i c.journal start now r.runs (inl (left_true _ _ h))) (right_true _ _ h)) refl
  causes w Memory h = refl

  pub fail_step : (d : CoreValue I) (w : ℕ) (why : WindowStop) → w < c.fixed.workers → slice_get c.failed w ≡ Some false → may_fail w why c.journal ≡ true
      → names_source c.fixed.plan why ≡ true → d ≡ after_fail c w why → RunsFrom start d
  fail_step d w why less fresh cause source is = subst (RunsFrom start) (sym is) (record {
    got = r.got;
    entered = r.entered;
    runs = ran (Fail w why) less (both_true (both_true (ap (is_some_and not) fresh) source) (causes w why cause));
    meant = r.meant;
  })

  pub put_step : (d : CoreValue I) (w : ℕ) (k : Key) (x : Picture) → w < c.fixed.workers → at_key k c.claims ≡ Some w → holds_none w c.table ≡ true
      → has_got_all w (input_keys c.fixed.plan k) c.journal ≡ true → length c.cache ≤ c.fixed.capacity → 0 < c.fixed.capacity → d ≡ after_publish c w k x → RunsFrom start d
  put_step d w k x less mine empty got bounded some is = ⊎_elim
      (λ (e : nat_lt (length c.cache) c.fixed.capacity ≡ true). publish_step d w k x less mine empty got (ltb-true _ _ e) is)
      (λ (e : nat_lt (length c.cache) c.fixed.capacity ≡ false). let most = ltb-false (length c.cache) c.fixed.capacity e in full_step d w k x less mine empty got some (omega (arith, bounded, most)) is)
      (test (nat_lt (length c.cache) c.fixed.capacity))

-- The core's own run.

module _ {I : Type 0} {c : CoreValue I} (r : IsRun c) where
  pub from_opening : RunsFrom (opening_of c) c
  from_opening = record { got = r.got; entered = r.entered; runs = r.runs; meant = r.meant }

  -- a call leaves the places of the table
  pub goes_on : (d : CoreValue I) → d.fixed ≡ c.fixed → keys_of d.table ≡ keys_of c.table → RunsFrom (opening_of c) d → IsRun d
  goes_on d fixed places run =
      let fixed' = sym fixed in
      let places' = sym places in
      let start : opening_of c ≡ opening_of d = λ i. opening (keys_alone (fixed' i).opening) (places' i) (fixed' i).count (fixed' i).workers in
      record {
        differ = subst (λ (f : Fixed). IsDistinct same_key f.opening) fixed' r.differ;
        few = subst (λ (f : Fixed). length f.opening ≤ f.capacity) fixed' r.few;
        got = run.got;
        entered = run.entered;
        runs = subst (λ z. replay (keys_machine d.fixed) z d.journal ≡ Some (state_of d run.got run.entered)) start run.runs;
        meant = run.meant;
      }

pub keys_again : (ps : List (Key × Picture)) → keys_alone (keys_of ps) ≡ seen bare ps
keys_again [] = refl
keys_again (p ∷ ps) = ap (λ l. (p.0, tt) ∷ l) (keys_again ps)

-- a window that begins is a run of no events
pub begun_is_run : {I : Type 0} (c : CoreValue I) (first count : ℕ) → c.claims ≡ [] → leases_out c.table ≡ 0 → IsDistinct same_key (keys_of c.cache) → length c.cache ≤ c.fixed.capacity → IsRun (after_begin c first count)
begun_is_run c first count unclaimed unlent differ few =
    let free = sym unclaimed in
    let idle = all_idle c.table unlent in
    let undelivered = none_seen bare count in
    let alone = keys_again c.cache in
    let l = length-map c.cache (λ (e : Key × Picture). e.0) in
    record {
      differ = differ;
      few = omega (arith, l, few);
      got = [];
      entered = [];
      runs = λ i. Some (record (opening_of (after_begin c first count)) { cache = alone i; claims = free i; places = idle i; frames = undelivered i });
      meant = λ p w h. absurd (none_out p w c.table unlent h);
    }
