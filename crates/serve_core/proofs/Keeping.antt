-- What each call keeps of the core.
use Rattle.std.proofs.Common.{◌≡◌, ◌≢◌, ◌⊎◌, ℕ, zero, suc, ◌+◌, ◌-◌, ◌<◌, ◌≤◌, ◌^◌, Bool, true, false, not, List, [], ◌∷◌, ◌++◌, length, take, drop, set, slice_get, Option, Some, None, sym, refl, ap, ◌∙◌, subst, inl, inr, ⊎_elim, arith, length-append}
use Rattle.std.proofs.lemmas.Option.{slice_get_within}
use Rattle.std.proofs.lemmas.List.{length-set, take_all, length-replicate}
use Rattle.std.specs.Prelude.{replicate, is_some}
use Rattle.std.specs.Option.{option_map_or}
use Rattle.std.specs.List.{IsDistinct}
use Rattle.std.specs.Map.{keys_of}
use Rattle.std.proofs.lemmas.Map.{keys-set_value}
use Rattle.std.proofs.Math.Seq.{take-length}
use Rattle.fv_plane.specs.declared.format.Info.{Info}
use Rattle.fv_plane.specs.declared.key.Key.{Key}
use Rattle.fv_plane.specs.Picture.{Picture}
use Rattle.clip_graph.specs.Plan.{Application, input_keys}
use Rattle.frame_cache.specs.Cached.{same_key, at_key, has_key, without_key, fronted, put_first, dropped_key}
use Rattle.frame_cache.proofs.CallerLemmas.{test, same_keys, present, at_fronted, at_put_other, none_put, some_without, some_push, length_without, differ_push, differ_without, gone}
use Rattle.inst_table.specs.declared.place.Place.{Place}
use Rattle.inst_table.specs.declared.place.Slot.{Slot}
use Rattle.inst_table.specs.declared.place.Slot.TheVariants.{Free, Leased}
use Rattle.inst_table.specs.Places.{same_place, slot_at, with_slot, shared_place, own_place}
use Rattle.inst_table.proofs.CallerLemmas.{has_put}
use Rattle.serve_machine.specs.declared.event.Event.{Event}
use Rattle.serve_machine.specs.declared.event.Event.TheVariants.{Hit, Claim, Enter, Leave, Publish, Abandon, Take, Deliver, Fail}
use Rattle.serve_machine.specs.declared.event.WindowStop.{WindowStop}
use Rattle.serve_machine.specs.Events.{IsKey, frame_key, mode_at, has_got, has_got_all, may_fail, names_source}
use Rattle.serve_machine.specs.SerialRun.{eviction}
use Rattle.serve_machine.specs.Machine.{Fixed, is_open, kept_stop, first_stop}
use Rattle.serve_core.specs.CoreValue.{CoreValue}
use Rattle.serve_core.specs.Holds.{claims_at, holds_none}
use Rattle.serve_core.specs.Sources.{place_of, shape_at, opened_at, IsFurnished, HoldTheirs}
use Rattle.serve_core.specs.Runs.{IsRun}
use Rattle.serve_core.specs.Kept.{count_of, is_leased, leases_out, AreOpen, KeysKept, OutputsKept, TableKept, PlanKept, Kept}
use Rattle.serve_core.proofs.Places.{at_set, not_free, free_same, some_same}
use Rattle.serve_core.proofs.StepLemmas.{claim_step, hit_step, abandon_step, take_step, enter_step, leave_step, deliver_step, put_step, fail_step, from_opening, goes_on, begun_is_run}
use Rattle.serve_core.proofs.Counts.{set_closed, take_more, value_more, value_less}
use Rattle.serve_core.proofs.Stopping.{AreQuiet, first_quiet, first_fail, eviction_quiet}

-- Keys.

module _ {plan : List Application} {cache : List (Key × Picture)} {claims : List (Key × ℕ)} (v : KeysKept plan cache claims) where
  keys_hit : (k : Key) → KeysKept plan (fronted k cache) claims
  keys_hit k = record {
    apart = λ j h. at_fronted j k cache ∙ v.apart j h;
    once = v.once;
    shaped = λ j x h. v.shaped j x (sym (at_fronted j k cache) ∙ h);
  }

  keys_claim : (k : Key) (w : ℕ) → at_key k cache ≡ None → at_key k claims ≡ None → KeysKept plan cache (claims ++ (k, w) ∷ [])
  keys_claim k w out unclaimed = record {
    apart = λ j h. ⊎_elim (λ (e : has_key j claims ≡ true). v.apart j e)
        (λ (e : same_key j k ≡ true). subst (λ z. at_key z cache ≡ None) (sym (same_keys j k e)) out) (some_push j k w claims h);
    once = differ_push k w claims unclaimed v.once;
    shaped = v.shaped;
  }

  keys_close : (k : Key) → KeysKept plan cache (without_key k claims)
  keys_close k = record {
    apart = λ j h. v.apart j (some_without j k claims h);
    once = differ_without k claims v.once;
    shaped = v.shaped;
  }

  keys_put : (k : Key) (most : ℕ) (x : Picture) → x.shape ≡ shape_at plan k.node → KeysKept plan (put_first most k x cache) (without_key k claims)
  keys_put k most x is = record {
    apart = λ j h. ⊎_elim
        (λ (e : same_key j k ≡ true). let none : at_key j (without_key k claims) ≡ None = subst (λ z. at_key z (without_key k claims) ≡ None) (sym (same_keys j k e)) (gone k claims v.once) in
        let bad : false ≡ true = sym (ap is_some none) ∙ h in absurd (cc))
        (λ (e : same_key j k ≡ false). none_put j k most x cache e (v.apart j (some_without j k claims h))) (test (same_key j k));
    once = differ_without k claims v.once;
    shaped = λ j y h. ⊎_elim
        (λ (e : same_key j k ≡ true). let h' : Some x ≡ Some y = rw e at h in let same : x ≡ y = some_same h' in
        ap (λ (z : Picture). z.shape) (sym same) ∙ (is ∙ ap (λ (z : Key). shape_at plan z.node) (sym (same_keys j k e))))
        (λ (e : same_key j k ≡ false). v.shaped j y (at_put_other j k most x y cache e h)) (test (same_key j k));
  }

-- Outputs.

none_open : (frames : List (Option Picture)) (n : ℕ) → AreOpen (drop n frames) → AreOpen (drop (n + 1) frames)
none_open frames n h = let e : n + 1 ≡ suc n = omega arith in subst (λ m. AreOpen (drop m frames)) (sym e) (go frames n h)
  where
    go : (frames : List (Option Picture)) (n : ℕ) → AreOpen (drop n frames) → AreOpen (drop (suc n) frames)
    go [] zero h = tt
    go [] (suc n) h = tt
    go (None ∷ frames) zero h = h
    go (Some x ∷ frames) zero h = absurd h
    go (x ∷ frames) (suc n) h = go frames n h

drop_set : (frames : List (Option Picture)) (i n : ℕ) (o : Option Picture) → i < n → drop n (set frames i o) ≡ drop n frames
drop_set [] i n o h = refl
drop_set (x ∷ xs) i zero o h = absurd (omega arith)
drop_set (x ∷ xs) zero (suc n) o h = refl
drop_set (x ∷ xs) (suc i) (suc n) o h = drop_set xs i n o (omega arith)

pub set_other : (xs : List (Option Picture)) (i j : ℕ) (x y : Picture) → slice_get (set xs i (Some x)) j ≡ Some (Some y) → (slice_get xs j ≡ Some (Some y)) ⊎ ((i ≡ j) × (x ≡ y))
set_other [] i j x y h = inl h
set_other (z ∷ zs) zero zero x y h = let same : x ≡ y = some_same (some_same h) in inr (refl, same)
set_other (z ∷ zs) zero (suc j) x y h = inl h
set_other (z ∷ zs) (suc i) zero x y h = inl h
set_other (z ∷ zs) (suc i) (suc j) x y h = ⊎_elim (λ (e : slice_get zs j ≡ Some (Some y)). inl e) (λ (e : (i ≡ j) × (x ≡ y)). inr (ap (λ n. suc n) e.0, e.1)) (set_other zs i j x y h)

module _ {plan : List Application} {root first count : ℕ} {taken : List ℕ} {frames : List (Option Picture)} (v : OutputsKept plan root first count taken frames) where
  outputs_take : (w : ℕ) → length taken ≢ count → OutputsKept plan root first count (taken ++ w ∷ []) frames
  outputs_take w ne = let few = v.few in let l = length-append taken (w ∷ []) in record {
    all = v.all;
    few = omega (arith, few, ne, l);
    untaken = subst (λ m. AreOpen (drop m frames)) (sym l) (none_open frames (length taken) v.untaken);
    shaped = v.shaped;
    numbers = v.numbers;
  }

  outputs_deliver : (i w : ℕ) (x : Picture) → slice_get taken i ≡ Some w → x.shape ≡ shape_at plan root → OutputsKept plan root first count taken (set frames i (Some x))
  outputs_deliver i w x at is = record {
    all = length-set frames i (Some x) ∙ v.all;
    few = v.few;
    untaken = subst AreOpen (sym (drop_set frames i (length taken) (Some x) (slice_get_within taken i w at))) v.untaken;
    shaped = λ j y h. ⊎_elim (λ (e : slice_get frames j ≡ Some (Some y)). v.shaped j y e) (λ (e : (i ≡ j) × (x ≡ y)). ap (λ (z : Picture). z.shape) (sym e.1) ∙ is) (set_other frames i j x y h);
    numbers = v.numbers;
  }

first_open : (frames : List (Option Picture)) (n : ℕ) → n < length frames → AreOpen (drop n frames) → slice_get frames n ≡ Some None
first_open [] n less h = absurd (omega arith)
first_open (None ∷ frames) zero less h = refl
first_open (Some x ∷ frames) zero less h = absurd h
first_open (x ∷ frames) (suc n) less h = first_open frames n (omega arith) h

-- Instances.

module _ {I : Type 0} {holds : I → Option Info} {plan : List Application} {workers : ℕ} {table : List (Place × Slot I)} (v : TableKept holds plan workers table) where
  furnished_set : (q : Place) (s : Slot I) → IsFurnished plan workers (with_slot q s table)
  furnished_set q s = record {
    shared = λ i less. has_put (shared_place i) q s table ∙ v.furnished.shared i less;
    own = λ w i few less mode. has_put (own_place w i) q s table ∙ v.furnished.own w i few less mode;
  }

  table_enter : (q : Place) (w : ℕ) → TableKept holds plan workers (with_slot q (Leased w) table)
  table_enter q w = record {
    furnished = furnished_set q (Leased w);
    sources = λ p x h. ⊎_elim (λ (e : slot_at p table ≡ Some (Free x)). v.sources p x e) (λ (e : (p ≡ q) × (Leased w ≡ Free x)). absurd (not_free e.1)) (at_set p q (Leased w) (Free x) table h);
  }

  table_leave : (q : Place) (y : I) → holds y ≡ opened_at plan q.node → TableKept holds plan workers (with_slot q (Free y) table)
  table_leave q y is = record {
    furnished = furnished_set q (Free y);
    sources = λ p x h. ⊎_elim (λ (e : slot_at p table ≡ Some (Free x)). v.sources p x e)
        (λ (e : (p ≡ q) × (Free y ≡ Free x)). ap holds (sym (free_same e.1)) ∙ (is ∙ ap (λ (z : Place). opened_at plan z.node) (sym e.0))) (at_set p q (Free y) (Free x) table h);
  }

-- The core.

module _ {I : Type 0} {holds : I → Option Info} {c : CoreValue I} {owed written room : ℕ} (v : Kept holds c owed written room) where
  stays_stopped : (journal : List Event) (es : List Event) → AreQuiet es → journal ≡ c.journal ++ es → c.stop ≡ first_stop journal
  stays_stopped journal es q e = v.stopped ∙ sym (ap first_stop e ∙ first_quiet c.journal es q)

  pub hit_kept : (w : ℕ) (k : Key) (x : Picture) (capacity : ℕ) (cache : List (Key × Picture)) (journal : List Event) (after more : ℕ)
      → 0 < c.fixed.count → w < c.fixed.workers → (at_key k c.claims ≡ Some w → ⊥) → c.stop ≡ None → at_key k c.cache ≡ Some x → capacity ≡ c.fixed.capacity → cache ≡ fronted k c.cache → journal ≡ c.journal ++ Hit w k ∷ [] → after ≡ written + 1 → written + (owed + 3) ≤ more
      → Kept holds (record c { fixed = record c.fixed { capacity = capacity }; cache = cache; journal = journal }) owed after more
  hit_kept w k x capacity cache journal after more some few other running at cap e f g enough = record {
    plan = v.plan;
    keys = subst (λ ps. KeysKept c.fixed.plan ps c.claims) (sym e) (keys_hit v.keys k);
    outputs = v.outputs;
    table = v.table;
    stopped = stays_stopped journal (Hit w k ∷ []) (refl, tt) f;
    between = λ none. absurd (omega arith);
    owed_is = v.owed_is;
    room_for = omega arith;
    run = λ _. let r = v.run some in goes_on r (record c { fixed = record c.fixed { capacity = capacity }; cache = cache; journal = journal }) (λ i. record c.fixed { capacity = cap i }) refl
        (hit_step (from_opening r) (record c { fixed = record c.fixed { capacity = capacity }; cache = cache; journal = journal }) w k x few other
        (running, at, λ i. record c { fixed = record c.fixed { capacity = cap i }; cache = e i; journal = f i }));
  }

  pub claim_kept : (w : ℕ) (k : Key) (capacity : ℕ) (cache : List (Key × Picture)) (claims : List (Key × ℕ)) (journal : List Event) (after more : ℕ)
      → 0 < c.fixed.count → w < c.fixed.workers → IsKey c.fixed.plan k → c.stop ≡ None → at_key k c.cache ≡ None → at_key k c.claims ≡ None → capacity ≡ c.fixed.capacity → cache ≡ fronted k c.cache → claims ≡ c.claims ++ (k, w) ∷ []
      → journal ≡ c.journal ++ Claim w k ∷ [] → after ≡ written + 1 → written + (owed + 3) ≤ more
      → Kept holds (record c { fixed = record c.fixed { capacity = capacity }; cache = cache; claims = claims; journal = journal }) (owed + 2) after more
  claim_kept w k capacity cache claims journal after more some few key running out unclaimed cap e d f g enough =
      let is = v.owed_is in
      let l : length claims ≡ length c.claims + 1 = ap length d ∙ length-append c.claims ((k, w) ∷ []) in
      let front : cache ≡ c.cache = e ∙ ap (λ o. option_map_or (λ x. (k, x) ∷ without_key k c.cache) o c.cache) out in
      record {
        plan = v.plan;
        keys = subst (λ ps. KeysKept c.fixed.plan ps claims) (sym front) (subst (λ cs. KeysKept c.fixed.plan c.cache cs) (sym d) (keys_claim v.keys k w out unclaimed));
        outputs = v.outputs;
        table = v.table;
        stopped = stays_stopped journal (Claim w k ∷ []) (refl, tt) f;
        between = λ none. absurd (omega arith);
        owed_is = omega (arith, is, l);
        room_for = omega arith;
        run = λ _. let r = v.run some in goes_on r (record c { fixed = record c.fixed { capacity = capacity }; cache = cache; claims = claims; journal = journal }) (λ i. record c.fixed { capacity = cap i }) refl
            (claim_step (from_opening r) (record c { fixed = record c.fixed { capacity = capacity }; cache = cache; claims = claims; journal = journal }) w k few key
            (running, out, unclaimed, λ i. record c { fixed = record c.fixed { capacity = cap i }; cache = front i; claims = d i; journal = f i }));
      }

  -- a worker with a claim is in a window
  claimed_within : (w i : ℕ) → claims_at w i c.claims ≡ true → c.fixed.count ≡ 0 → ⊥
  claimed_within w i h none = let bad : false ≡ true = sym (ap (claims_at w i) (v.between none).unclaimed) ∙ h in absurd (cc)

  pub entered_kept : (w i : ℕ) (p : Place) (x : I) (table : List (Place × Slot I)) (journal : List Event) (after more : ℕ)
      → claims_at w i c.claims ≡ true → w < c.fixed.workers → (mode_at c.fixed.plan i ≡ 1 → ⊥) → holds_none w c.table ≡ true → c.stop ≡ None → p ≡ place_of c.fixed.plan w i → slot_at p c.table ≡ Some (Free x) → table ≡ with_slot p (Leased w) c.table → journal ≡ c.journal ++ Enter w i p.instance ∷ [] → after ≡ written + 1 → written + (owed + 2) ≤ more
      → Kept holds (record c { table = table; journal = journal }) (owed + 1) after more
  entered_kept w i p x table journal after more claim few mode empty running meant at e f g enough =
      let is = v.owed_is in
      let l : leases_out table ≤ leases_out c.table + 1 = subst (λ t. leases_out t ≤ leases_out c.table + 1) (sym e) (value_more is_leased (same_place p) c.table (Leased w)) in
      record {
        plan = v.plan;
        keys = v.keys;
        outputs = v.outputs;
        table = subst (λ t. TableKept holds c.fixed.plan c.fixed.workers t) (sym e) (table_enter v.table p w);
        stopped = stays_stopped journal (Enter w i p.instance ∷ []) (refl, tt) f;
        between = λ none. absurd (claimed_within w i claim none);
        owed_is = omega (arith, is, l);
        room_for = omega arith;
        run = λ some. let r = v.run some in
            let places = ap keys_of e ∙ keys-set_value (same_place p) c.table (Leased w) in
            let to : record c { table = table; journal = journal } ≡ record c { table = with_slot (place_of c.fixed.plan w i) (Leased w) c.table; journal = c.journal ++ Enter w i (place_of c.fixed.plan w i).instance ∷ [] } =
            (λ j. record c { table = e j; journal = f j }) ∙ ap (λ (q : Place). record c { table = with_slot q (Leased w) c.table; journal = c.journal ++ Enter w i q.instance ∷ [] }) meant in
            goes_on r (record c { table = table; journal = journal }) refl places
            (enter_step (from_opening r) (record c { table = table; journal = journal }) w i (record { place = p; value = x }) few mode claim empty
            (running, meant, subst (λ q. slot_at q c.table ≡ Some (Free x)) meant at, to));
      }

  lease_count : (p : Place) (w : ℕ) (x : I) → slot_at p c.table ≡ Some (Leased w) → leases_out (with_slot p (Free x) c.table) + 1 ≡ leases_out c.table
  lease_count p w x at = value_less is_leased (same_place p) c.table (Leased w) (Free x) at (λ _. refl) (λ _. refl)

  pub lease_owed : (p : Place) (w : ℕ) (x : I) → slot_at p c.table ≡ Some (Leased w) → 1 ≤ owed
  lease_owed p w x at = let is = v.owed_is in let l = lease_count p w x at in omega (arith, is, l)

  pub left_kept : (w : ℕ) (p : Place) (x : I) (table : List (Place × Slot I)) (journal : List Event) (less after more : ℕ)
      → w < c.fixed.workers → slot_at p c.table ≡ Some (Leased w) → holds x ≡ opened_at c.fixed.plan p.node
      → table ≡ with_slot p (Free x) c.table → journal ≡ c.journal ++ Leave w p.node p.instance ∷ [] → after ≡ written + 1 → less + 1 ≡ owed → more ≡ room
      → Kept holds (record c { table = table; journal = journal }) less after more
  left_kept w p x table journal less after more few at source e f g h k =
      let is = v.owed_is in
      let r = v.room_for in
      let l = lease_count p w x at in
      let l' : leases_out table + 1 ≡ leases_out c.table = ap (λ t. leases_out t + 1) e ∙ l in
      record {
        plan = v.plan;
        keys = v.keys;
        outputs = v.outputs;
        table = subst (λ t. TableKept holds c.fixed.plan c.fixed.workers t) (sym e) (table_leave v.table p x source);
        stopped = stays_stopped journal (Leave w p.node p.instance ∷ []) (refl, tt) f;
        between = λ none. let out = (v.between none).unlent in absurd (omega (arith, out, l));
        owed_is = omega (arith, is, l', h);
        room_for = omega arith;
        run = λ some. let run = v.run some in
            goes_on run (record c { table = table; journal = journal }) refl (ap keys_of e ∙ keys-set_value (same_place p) c.table (Free x))
            (leave_step (from_opening run) (record c { table = table; journal = journal }) w p x few at (λ i. record c { table = e i; journal = f i }));
      }

  claim_count : (k : Key) (w : ℕ) → at_key k c.claims ≡ Some w → length (without_key k c.claims) + 1 ≡ length c.claims
  claim_count k w at = length_without k c.claims (present (at_key k c.claims) w at)

  pub claim_owed : (k : Key) (w : ℕ) → at_key k c.claims ≡ Some w → 2 ≤ owed
  claim_owed k w at = let is = v.owed_is in let l = claim_count k w at in omega (arith, is, l)

  open_within : (k : Key) (w : ℕ) → at_key k c.claims ≡ Some w → c.fixed.count ≡ 0 → ⊥
  open_within k w at none = let bad : None ≡ Some w = sym (ap (at_key k) (v.between none).unclaimed) ∙ at in absurd (cc)

  pub abandoned_kept : (w : ℕ) (k : Key) (claims : List (Key × ℕ)) (journal : List Event) (less after more : ℕ)
      → w < c.fixed.workers → at_key k c.claims ≡ Some w → claims ≡ without_key k c.claims → journal ≡ c.journal ++ Abandon w k ∷ [] → after ≡ written + 1 → less + 2 ≡ owed → more ≡ room
      → Kept holds (record c { claims = claims; journal = journal }) less after more
  abandoned_kept w k claims journal less after more few at e f g h m =
      let is = v.owed_is in
      let r = v.room_for in
      let l : length claims + 1 ≡ length c.claims = ap (λ cs. length cs + 1) e ∙ claim_count k w at in
      record {
        plan = v.plan;
        keys = subst (λ cs. KeysKept c.fixed.plan c.cache cs) (sym e) (keys_close v.keys k);
        outputs = v.outputs;
        table = v.table;
        stopped = stays_stopped journal (Abandon w k ∷ []) (refl, tt) f;
        between = λ none. absurd (open_within k w at none);
        owed_is = omega (arith, is, l, h);
        room_for = omega arith;
        run = λ some. let run = v.run some in
            goes_on run (record c { claims = claims; journal = journal }) refl refl
            (abandon_step (from_opening run) (record c { claims = claims; journal = journal }) w k few at (λ i. record c { claims = e i; journal = f i }));
      }

  pub published_kept : (w : ℕ) (k : Key) (x : Picture) (most capacity : ℕ) (gone : Option Key) (cache : List (Key × Picture)) (claims : List (Key × ℕ)) (journal : List Event) (less after more : ℕ)
      → w < c.fixed.workers → at_key k c.claims ≡ Some w → holds_none w c.table ≡ true → has_got_all w (input_keys c.fixed.plan k) c.journal ≡ true
      → length c.cache ≤ c.fixed.capacity → 0 < c.fixed.capacity → capacity ≡ c.fixed.capacity → most ≡ c.fixed.capacity → gone ≡ dropped_key c.fixed.capacity c.cache → x.shape ≡ shape_at c.fixed.plan k.node
      → cache ≡ put_first most k x c.cache → claims ≡ without_key k c.claims → journal ≡ c.journal ++ (eviction w gone ++ Publish w k ∷ []) → after ≤ written + 2 → less + 2 ≡ owed → more ≡ room
      → Kept holds (record c { fixed = record c.fixed { capacity = capacity }; cache = cache; claims = claims; journal = journal }) less after more
  published_kept w k x most capacity gone cache claims journal less after more few at empty got bounded some cap full last shape d e f g h m =
      let is = v.owed_is in
      let r = v.room_for in
      let l : length claims + 1 ≡ length c.claims = ap (λ cs. length cs + 1) e ∙ claim_count k w at in
      record {
        plan = v.plan;
        keys = subst (λ ps. KeysKept c.fixed.plan ps claims) (sym d) (subst (λ cs. KeysKept c.fixed.plan (put_first most k x c.cache) cs) (sym e) (keys_put v.keys k most x shape));
        outputs = v.outputs;
        table = v.table;
        stopped = stays_stopped journal (eviction w gone ++ Publish w k ∷ []) (eviction_quiet w gone k) f;
        between = λ none. absurd (open_within k w at none);
        owed_is = omega (arith, is, l, h);
        room_for = omega arith;
        run = λ within. let run = v.run within in
            let put = d ∙ ap (λ n. put_first n k x c.cache) full in
            let events = f ∙ ap (λ o. c.journal ++ (eviction w o ++ Publish w k ∷ [])) last in
            goes_on run (record c { fixed = record c.fixed { capacity = capacity }; cache = cache; claims = claims; journal = journal }) (λ i. record c.fixed { capacity = cap i }) refl
            (put_step (from_opening run) (record c { fixed = record c.fixed { capacity = capacity }; cache = cache; claims = claims; journal = journal }) w k x few at empty got bounded some
            (λ i. record c { fixed = record c.fixed { capacity = cap i }; cache = put i; claims = e i; journal = events i }));
      }

  pub took_kept : (w n : ℕ) (taken : List ℕ) (journal : List Event) (after more : ℕ)
      → w < c.fixed.workers → c.stop ≡ None → n ≡ c.fixed.first + length c.outputs.taken → length c.outputs.taken ≢ c.fixed.count → taken ≡ c.outputs.taken ++ w ∷ [] → journal ≡ c.journal ++ Take w n ∷ [] → after ≡ written + 1 → written + (owed + 2) ≤ more
      → Kept holds (record c { outputs = record { taken = taken; frames = c.outputs.frames }; journal = journal }) (owed + 1) after more
  took_kept w n taken journal after more less running next ne e f g enough =
      let is = v.owed_is in
      let few = v.outputs.few in
      let t = take_more is_open c.outputs.frames (length c.outputs.taken) in
      let l : length taken ≡ length c.outputs.taken + 1 = ap length e ∙ length-append c.outputs.taken (w ∷ []) in
      let t' : count_of is_open (take (length taken) c.outputs.frames) ≤ count_of is_open (take (length c.outputs.taken) c.outputs.frames) + 1 =
      subst (λ m. count_of is_open (take m c.outputs.frames) ≤ count_of is_open (take (length c.outputs.taken) c.outputs.frames) + 1) (sym l) t in
      record {
        plan = v.plan;
        keys = v.keys;
        outputs = subst (λ ts. OutputsKept c.fixed.plan c.fixed.root c.fixed.first c.fixed.count ts c.outputs.frames) (sym e) (outputs_take v.outputs w ne);
        table = v.table;
        stopped = stays_stopped journal (Take w n ∷ []) (refl, tt) f;
        between = λ none. absurd (omega (arith, few, ne, none));
        owed_is = omega (arith, is, t');
        room_for = omega arith;
        run = λ some. let run = v.run some in
            let left : length c.outputs.taken < c.fixed.count = omega (arith, few, ne) in
            goes_on run (record c { outputs = record { taken = taken; frames = c.outputs.frames }; journal = journal }) refl refl
            (take_step (from_opening run) (record c { outputs = record { taken = taken; frames = c.outputs.frames }; journal = journal }) w n less
            (running, left, next, λ i. record c { outputs = record { taken = e i; frames = c.outputs.frames }; journal = f i }));
      }

  pub next_undelivered : (n : ℕ) → length c.outputs.taken < c.fixed.count → n ≡ c.fixed.first + length c.outputs.taken → slice_get c.outputs.frames (n - c.fixed.first) ≡ Some None
  next_undelivered n less is =
      let e : length c.outputs.taken ≡ n - c.fixed.first = omega arith in
      let all = v.outputs.all in
      subst (λ m. slice_get c.outputs.frames m ≡ Some None) e (first_open c.outputs.frames (length c.outputs.taken) (omega (arith, all, less)) v.outputs.untaken)

  output_count : (i w : ℕ) (x : Picture) → slice_get c.outputs.taken i ≡ Some w → slice_get c.outputs.frames i ≡ Some None
      → count_of is_open (take (length c.outputs.taken) (set c.outputs.frames i (Some x))) + 1 ≡ count_of is_open (take (length c.outputs.taken) c.outputs.frames)
  output_count i w x at none = set_closed is_open c.outputs.frames (length c.outputs.taken) i None (Some x) (slice_get_within c.outputs.taken i w at) none refl refl

  pub output_owed : (i w : ℕ) (x : Picture) → slice_get c.outputs.taken i ≡ Some w → slice_get c.outputs.frames i ≡ Some None → 1 ≤ owed
  output_owed i w x at none = let is = v.owed_is in let l = output_count i w x at none in omega (arith, is, l)

  pub delivered_kept : (w n i : ℕ) (x : Picture) (frames : List (Option Picture)) (journal : List Event) (less after more : ℕ)
      → w < c.fixed.workers → c.fixed.first ≤ n → i ≡ n - c.fixed.first → has_got w (frame_key c.fixed.root n) c.journal ≡ true
      → slice_get c.outputs.taken i ≡ Some w → slice_get c.outputs.frames i ≡ Some None → x.shape ≡ shape_at c.fixed.plan c.fixed.root
      → frames ≡ set c.outputs.frames i (Some x) → journal ≡ c.journal ++ Deliver w n ∷ [] → after ≡ written + 1 → less + 1 ≡ owed → more ≡ room
      → Kept holds (record c { outputs = record { taken = c.outputs.taken; frames = frames }; journal = journal }) less after more
  delivered_kept w n i x frames journal less after more lower low place got at none shape e f g h m =
      let is = v.owed_is in
      let r = v.room_for in
      let few = v.outputs.few in
      let within = slice_get_within c.outputs.taken i w at in
      let l : count_of is_open (take (length c.outputs.taken) frames) + 1 ≡ count_of is_open (take (length c.outputs.taken) c.outputs.frames) =
      ap (λ fs. count_of is_open (take (length c.outputs.taken) fs) + 1) e ∙ output_count i w x at none in
      record {
        plan = v.plan;
        keys = v.keys;
        outputs = subst (λ fs. OutputsKept c.fixed.plan c.fixed.root c.fixed.first c.fixed.count c.outputs.taken fs) (sym e) (outputs_deliver v.outputs i w x at shape);
        table = v.table;
        stopped = stays_stopped journal (Deliver w n ∷ []) (refl, tt) f;
        between = λ empty. absurd (omega (arith, few, within, empty));
        owed_is = omega (arith, is, l, h);
        room_for = omega arith;
        run = λ some. let run = v.run some in
            let put = e ∙ ap (λ j. set c.outputs.frames j (Some x)) place in
            goes_on run (record c { outputs = record { taken = c.outputs.taken; frames = frames }; journal = journal }) refl refl
            (deliver_step (from_opening run) (record c { outputs = record { taken = c.outputs.taken; frames = frames }; journal = journal }) w n x lower low
            (subst (λ j. slice_get c.outputs.taken j ≡ Some w) place at) (subst (λ j. slice_get c.outputs.frames j ≡ Some None) place none) got
            (λ j. record c { outputs = record { taken = c.outputs.taken; frames = put j }; journal = f j }));
      }

  fail_count : (w : ℕ) → slice_get c.failed w ≡ Some false → count_of not (set c.failed w true) + 1 ≡ count_of not c.failed
  fail_count w at =
      let h = set_closed not c.failed (length c.failed) w false true (slice_get_within c.failed w false at) at refl refl in
      let s = length-set c.failed w true in
      ap (λ l. count_of not l + 1) (sym (take_all (length c.failed) (set c.failed w true) (omega (arith, s)))) ∙ (h ∙ ap (count_of not) (take-length c.failed))

  pub fail_owed : (w : ℕ) → slice_get c.failed w ≡ Some false → 1 ≤ owed
  fail_owed w at = let is = v.owed_is in let l = fail_count w at in omega (arith, is, l)

  pub failed_kept : (w : ℕ) (why : WindowStop) (failed : List Bool) (stop : Option WindowStop) (journal : List Event) (less after more : ℕ)
      → w < c.fixed.workers → may_fail w why c.journal ≡ true → names_source c.fixed.plan why ≡ true → slice_get c.failed w ≡ Some false
      → failed ≡ set c.failed w true → stop ≡ Some (kept_stop c.stop why) → journal ≡ c.journal ++ Fail w why ∷ [] → after ≡ written + 1 → less + 1 ≡ owed → more ≡ room
      → Kept holds (record c { failed = failed; stop = stop; journal = journal }) less after more
  failed_kept w why failed stop journal less after more few cause source at d e f g h m =
      let is = v.owed_is in
      let r = v.room_for in
      let l : count_of not failed + 1 ≡ count_of not c.failed = ap (λ fs. count_of not fs + 1) d ∙ fail_count w at in
      record {
        plan = v.plan;
        keys = v.keys;
        outputs = v.outputs;
        table = v.table;
        stopped = e ∙ (ap (λ o. Some (kept_stop o why)) v.stopped ∙ (first_fail c.journal w why ∙ ap first_stop (sym f)));
        between = λ none. let bad : None ≡ Some false = sym (ap (λ fs. slice_get fs w) (v.between none).unfailed) ∙ at in absurd (cc);
        owed_is = omega (arith, is, l, h);
        room_for = omega arith;
        run = λ some. let run = v.run some in
            goes_on run (record c { failed = failed; stop = stop; journal = journal }) refl refl
            (fail_step (from_opening run) (record c { failed = failed; stop = stop; journal = journal }) w why few at cause source (λ i. record c { failed = d i; stop = e i; journal = f i }));
      }

-- A core that is made, a window that begins, and one that ends.

unfailed_count : (n : ℕ) → count_of not (replicate n false) ≡ n
unfailed_count zero = refl
unfailed_count (suc n) = let ih = unfailed_count n in omega arith

open_ones : (n : ℕ) → AreOpen (replicate n None)
open_ones zero = tt
open_ones (suc n) = open_ones n

pub none_given : (n j : ℕ) (x : Picture) → slice_get (replicate n None) j ≡ Some (Some x) → ⊥
none_given zero j x h = absurd (cc)
none_given (suc n) zero x h = let bad : None ≡ Some x = some_same h in absurd (cc)
none_given (suc n) (suc j) x h = none_given n j x h

outputs_begun : (plan : List Application) (root first count : ℕ) → first + count < 2 ^ 32 → OutputsKept plan root first count [] (replicate count None)
outputs_begun plan root first count fits = record {
  all = length-replicate count None;
  few = omega arith;
  untaken = open_ones count;
  shaped = λ j x h. absurd (none_given count j x h);
  numbers = fits;
}

pub begun_kept : {I : Type 0} {holds : I → Option Info} {c : CoreValue I} {owed written room : ℕ} → Kept holds c owed written room
    → (first count : ℕ) (opening : List Key) (taken : List ℕ) (frames : List (Option Picture)) (failed : List Bool) (journal : List Event) (after more : ℕ)
    → IsDistinct same_key (keys_of c.cache) → length c.cache ≤ c.fixed.capacity → opening ≡ keys_of c.cache
    → c.fixed.count ≡ 0 → 0 < count → first + count < 2 ^ 32 → taken ≡ [] → frames ≡ replicate count None → failed ≡ replicate c.fixed.workers false → journal ≡ [] → after ≡ 0 → c.fixed.workers ≤ more
    → Kept holds (record c { fixed = record c.fixed { first = first; count = count; opening = opening }; outputs = record { taken = taken; frames = frames }; failed = failed; stop = None; journal = journal }) c.fixed.workers after more
begun_kept {c = c} v first count opening taken frames failed journal after more differ bounded keys between some fits t f e j a enough =
    let none = (v.between between).unlent in
    let unclaimed = ap length (v.between between).unclaimed in
    let l : count_of not failed ≡ c.fixed.workers = ap (count_of not) e ∙ unfailed_count c.fixed.workers in
    let o : count_of is_open (take (length taken) frames) ≡ 0 = ap (λ ts. count_of is_open (take (length ts) frames)) t in
    record {
      plan = v.plan;
      keys = v.keys;
      outputs = subst (λ ts. OutputsKept c.fixed.plan c.fixed.root first count ts frames) (sym t) (subst (λ fs. OutputsKept c.fixed.plan c.fixed.root first count [] fs) (sym f) (outputs_begun c.fixed.plan c.fixed.root first count fits));
      table = v.table;
      stopped = sym (ap first_stop j);
      between = λ empty. absurd (omega arith);
      owed_is = omega (arith, none, unclaimed, l, o);
      room_for = omega arith;
      run = λ _. subst IsRun (λ i. record c { fixed = record c.fixed { first = first; count = count; opening = sym keys i }; outputs = record { taken = sym t i; frames = sym f i }; failed = sym e i; stop = None; journal = sym j i })
          (begun_is_run c first count (v.between between).unclaimed none differ bounded);
    }

pub ended_kept : {I : Type 0} {holds : I → Option Info} {c : CoreValue I} {owed written room : ℕ} → Kept holds c owed written room
    → (taken : List ℕ) (frames : List (Option Picture)) (failed : List Bool) (journal : List Event) (after more : ℕ)
    → c.claims ≡ [] → leases_out c.table ≡ 0 → taken ≡ [] → frames ≡ [] → failed ≡ [] → journal ≡ [] → after ≡ 0
    → Kept holds (record c { fixed = record c.fixed { first = 0; count = 0 }; outputs = record { taken = taken; frames = frames }; failed = failed; stop = None; journal = journal }) 0 after more
ended_kept {c = c} v taken frames failed journal after more unclaimed none t f e j a =
    let few = ap length unclaimed in
    let l : count_of not failed ≡ 0 = ap (count_of not) e in
    let o : count_of is_open (take (length taken) frames) ≡ 0 = ap (λ ts. count_of is_open (take (length ts) frames)) t in
    record {
      plan = v.plan;
      keys = v.keys;
      outputs = subst (λ ts. OutputsKept c.fixed.plan c.fixed.root 0 0 ts frames) (sym t) (subst (λ fs. OutputsKept c.fixed.plan c.fixed.root 0 0 [] fs) (sym f) (outputs_begun c.fixed.plan c.fixed.root 0 0 (omega arith)));
      table = v.table;
      stopped = sym (ap first_stop j);
      between = λ empty. record { unclaimed = unclaimed; unlent = none; unfailed = e; running = refl; empty = j };
      owed_is = omega (arith, none, few, l, o);
      room_for = omega arith;
      run = λ some. absurd (omega arith);
    }

keys_none : (plan : List Application) (cache : List (Key × Picture)) → cache ≡ [] → KeysKept plan cache []
unfolding IsDistinct
keys_none plan cache e = record {
  apart = λ k h. absurd (cc);
  once = tt;
  shaped = λ k x h. let bad : None ≡ Some x = sym (ap (at_key k) e) ∙ h in absurd (cc);
}

pub made_kept : {I : Type 0} (holds : I → Option Info) (fixed : Fixed) (cache : List (Key × Picture)) (claims : List (Key × ℕ)) (table : List (Place × Slot I)) (taken : List ℕ) (frames : List (Option Picture)) (failed : List Bool) (journal : List Event) (written room : ℕ)
    → PlanKept fixed.plan fixed.root fixed.workers → cache ≡ [] → IsFurnished fixed.plan fixed.workers table → HoldTheirs holds fixed.plan table → leases_out table ≡ 0
    → fixed.first ≡ 0 → fixed.count ≡ 0 → claims ≡ [] → taken ≡ [] → frames ≡ [] → failed ≡ [] → journal ≡ [] → written ≡ 0
    → Kept holds (record { fixed = fixed; cache = cache; claims = claims; table = table; outputs = record { taken = taken; frames = frames }; failed = failed; stop = None; journal = journal }) 0 written room
made_kept holds fixed cache claims table taken frames failed journal written room plan k furnished sources none a b d t f e j z =
    let few = ap length d in
    let l : count_of not failed ≡ 0 = ap (count_of not) e in
    let o : count_of is_open (take (length taken) frames) ≡ 0 = ap (λ ts. count_of is_open (take (length ts) frames)) t in
    record {
      plan = plan;
      keys = subst (λ cs. KeysKept fixed.plan cache cs) (sym d) (keys_none fixed.plan cache k);
      outputs = subst (λ m. OutputsKept fixed.plan fixed.root m fixed.count taken frames) (sym a) (subst (λ m. OutputsKept fixed.plan fixed.root 0 m taken frames) (sym b)
          (subst (λ ts. OutputsKept fixed.plan fixed.root 0 0 ts frames) (sym t) (subst (λ fs. OutputsKept fixed.plan fixed.root 0 0 [] fs) (sym f) (outputs_begun fixed.plan fixed.root 0 0 (omega arith)))));
      table = record { furnished = furnished; sources = sources };
      stopped = sym (ap first_stop j);
      between = λ empty. record { unclaimed = d; unlent = none; unfailed = e; running = refl; empty = j };
      owed_is = omega (arith, none, few, l, o);
      room_for = omega arith;
      run = λ some. absurd (omega (arith, b));
    }
