-- What is made in windows one after the other.
use Rattle.std.proofs.Common.{◌≡◌, ℕ, ◌+◌, ◌≤◌, ◌==◌, Bool, true, false, ◌||◌, if◌then◌else◌, List, [], ◌∷◌, ◌++◌, length, Option, Some, None, sym, refl, ap, ◌∙◌, subst, inl, inr, ⊎_elim, arith}
use Rattle.std.specs.Prelude.{is_some, option_map}
use Rattle.std.specs.List.{IsDistinct, AllByRecursion, list_any}
use Rattle.std.specs.Map.{keys_of}
use Rattle.std.proofs.lemmas.Bool.{eqb-true}
use Rattle.std.proofs.lemmas.List.{length-map}
use Rattle.fv_plane.specs.declared.key.Key.{Key}
use Rattle.clip_graph.specs.Plan.{input_keys}
use Rattle.frame_cache.specs.Cached.{same_key, at_key, has_key, fronted, Differ}
use Rattle.frame_cache.proofs.CallerLemmas.{test, left_true, right_true, same_keys, key_itself, swapped, at_fronted, some_without, some_push, others}
use Rattle.inst_table.specs.declared.place.Place.{Place}
use Rattle.serve_machine.specs.declared.event.Event.{Event}
use Rattle.serve_machine.specs.declared.event.Event.TheVariants.{Hit, Claim, Enter, Leave, Evict, Publish, Abandon, Take, Deliver, Fail}
use Rattle.serve_machine.specs.Events.{has, without, WindowEvents}
use Rattle.serve_machine.specs.Machine.{State, noted, gathered, Machine, meets, allowed, change, replay}
use Rattle.serve_machine.specs.Law.{start_of}
use Rattle.serve_machine.specs.Journals.{in_window, AreRuns, done, next, all_events, is_eviction, has_evicted, is_publication, publications, is_claim, has_claimed, MakesOnce}
use Rattle.serve_machine.proofs.KeptLemmas.{Keys, its_claim, keys_step, keys_law}
use Rattle.serve_machine.proofs.GotLemmas.{mapped}
use Rattle.serve_machine.proofs.LawLemmas.{differ_none, no_claims}
use Rattle.serve_machine.proofs.TruthLemmas.{either, or_left, or_right, or_true, some_same}

evicted_before : (es fs : List Event) → has_evicted (es ++ fs) ≡ false → has_evicted es ≡ false
evicted_before [] fs h = refl
evicted_before (e ∷ es) fs h = rw (or_left (is_eviction e) (has_evicted (es ++ fs)) h) (evicted_before es fs (or_right (is_eviction e) (has_evicted (es ++ fs)) h))

evicted_after : (es fs : List Event) → has_evicted (es ++ fs) ≡ false → has_evicted fs ≡ false
evicted_after [] fs h = h
evicted_after (e ∷ es) fs h = evicted_after es fs (or_right (is_eviction e) (has_evicted (es ++ fs)) h)

none_evicted : (es fs : List Event) → has_evicted es ≡ false → has_evicted fs ≡ false → has_evicted (es ++ fs) ≡ false
none_evicted [] fs h g = g
none_evicted (e ∷ es) fs h g = rw (or_left (is_eviction e) (has_evicted es) h) (none_evicted es fs (or_right (is_eviction e) (has_evicted es) h) g)

claimed_before : (k : Key) (es fs : List Event) → has_claimed k es ≡ true → has_claimed k (es ++ fs) ≡ true
claimed_before k [] fs h = absurd (cc)
claimed_before k (e ∷ es) fs h = or_true (is_claim k e) (has_claimed k (es ++ fs)) (⊎_elim
    (λ (g : is_claim k e ≡ true). inl g) (λ (g : has_claimed k es ≡ true). inr (claimed_before k es fs g)) (either (is_claim k e) (has_claimed k es) h))

claimed_after : (k : Key) (es fs : List Event) → has_claimed k fs ≡ true → has_claimed k (es ++ fs) ≡ true
claimed_after k [] fs h = h
claimed_after k (e ∷ es) fs h = or_true (is_claim k e) (has_claimed k (es ++ fs)) (inr (claimed_after k es fs h))

counted : (k : Key) (es fs : List Event) → publications k (es ++ fs) ≡ publications k es + publications k fs
counted k [] fs = omega arith
counted k (e ∷ es) fs = let ih = counted k es fs in
    elim (is_publication k e) as (λ b. (if b then publications k (es ++ fs) + 1 else publications k (es ++ fs)) ≡ (if b then publications k es + 1 else publications k es) + publications k fs)
    [ true ↦ omega (arith, ih) | false ↦ ih ]

-- Where nothing is evicted, a key that is published is cached from then on.

abbrev one : Bool → ℕ
one b = if b then 1 else 0

module _ {F : Type 0} (m : Machine F) where
  put_count : (k j : Key) (o : Option F) (cache : List (Key × F)) → is_some o ≡ true → at_key j cache ≡ None → one (same_key k j) + one (has_key k cache) ≡ one (has_key k (noted j o cache))
  put_count k j None cache there none = absurd (cc)
  put_count k j (Some x) cache there none = ⊎_elim
      (λ (e : same_key k j ≡ true). let out : has_key k cache ≡ false = ap is_some (subst (λ z. at_key z cache ≡ None) (sym (same_keys k j e)) none) in rw e (rw out refl))
      (λ (e : same_key k j ≡ false). rw e (omega arith)) (test (same_key k j))

  step_count : (s : State F) (e : Event) (k : Key) → meets m s e ≡ true → is_eviction e ≡ false → Keys m s.cache s.claims
      → one (is_publication k e) + one (has_key k s.cache) ≡ one (has_key k (change m s e).cache)
  step_count s (Hit w j) k ok quiet v = let same : has_key k (fronted j s.cache) ≡ has_key k s.cache = ap is_some (at_fronted k j s.cache) in rw same (omega arith)
  step_count s (Claim w j) k ok quiet v = omega arith
  step_count s (Enter w i j) k ok quiet v = omega arith
  step_count s (Leave w i j) k ok quiet v = omega arith
  step_count s (Evict w j) k ok quiet v = absurd (cc)
  step_count s (Publish w j) k ok quiet v =
      let all = gathered w (input_keys m.fixed.plan j) s.got in
      put_count k j (option_map (m.make j) all) s.cache (mapped (m.make j) all (right_true _ _ (left_true _ _ ok))) (v.apart j (ap is_some (its_claim m s w j ok)))
  step_count s (Abandon w j) k ok quiet v = omega arith
  step_count s (Take w n) k ok quiet v = omega arith
  step_count s (Deliver w n) k ok quiet v = omega arith
  step_count s (Fail w why) k ok quiet v = omega arith

  run_count : (events : List Event) (s t : State F) (k : Key) → Keys m s.cache s.claims → has_evicted events ≡ false → replay m s events ≡ Some t
      → publications k events + one (has_key k s.cache) ≡ one (has_key k t.cache)
  run_count [] s t k v quiet ran = ap (λ (z : State F). 0 + one (has_key k z.cache)) (some_same ran) ∙ omega arith
  run_count (e ∷ es) s t k v quiet ran = ⊎_elim
      (λ (ok : allowed m s e ≡ true). let met = right_true _ _ (right_true _ _ ok) in
      let first = step_count s e k met (or_left (is_eviction e) (has_evicted es) quiet) v in
      let rest = run_count es (change m s e) t k (keys_step m s e met v) (or_right (is_eviction e) (has_evicted es) quiet) (rw ok at ran) in
      counts (is_publication k e) (publications k es) (one (has_key k s.cache)) (one (has_key k (change m s e).cache)) (one (has_key k t.cache)) first rest)
      (λ (bad : allowed m s e ≡ false). let none : None ≡ Some t = rw bad at ran in absurd (cc)) (test (allowed m s e))
    where
      counts : (b : Bool) (n x y z : ℕ) → one b + x ≡ y → n + y ≡ z → (if b then n + 1 else n) + x ≡ z
      counts true n x y z h g = omega (arith, h, g)
      counts false n x y z h g = omega (arith, h, g)

one_most : (b : Bool) → one b ≤ 1
one_most true = omega arith
one_most false = omega arith

module _ {F : Type 0} (m : Machine F) (places : List Place) where
  opens : (cache : List (Key × F)) (v : WindowEvents) → Differ cache → length cache ≤ m.fixed.capacity → Keys (in_window m cache v) cache []
  opens cache v differ few = no_claims (in_window m cache v) cache differ few

  windows_count : {cache after : List (Key × F)} {windows : List WindowEvents} (k : Key) → Differ cache → length cache ≤ m.fixed.capacity → AreRuns m places cache windows after
      → has_evicted (all_events windows) ≡ false → publications k (all_events windows) + one (has_key k cache) ≡ one (has_key k after)
  windows_count {cache = cache} k differ few done quiet = omega arith
  windows_count {cache = cache} {after = after} k differ few (next {v = v} {vs = vs} s ran rest) quiet =
      let start = start_of (in_window m cache v) cache places in
      let first = run_count (in_window m cache v) v.events start s k (opens cache v differ few) (evicted_before v.events (all_events vs) quiet) ran in
      let kept = keys_law (in_window m cache v) v.events start s (opens cache v differ few) ran in
      let more = windows_count k kept.cached_once kept.bounded rest (evicted_after v.events (all_events vs) quiet) in
      let both = counted k v.events (all_events vs) in
      omega (arith, first, more, both)

-- No more keys than may be cached.

key_has : {A : Type 0} → (k : Key) (ps : List (Key × A)) → has k (keys_of ps) ≡ has_key k ps
key_has k [] = refl
key_has k (p ∷ ps) = let ih = key_has k ps in elim (same_key k p.0) as (λ b. (b || has k (keys_of ps)) ≡ is_some (if b then Some p.1 else at_key k ps)) [ true ↦ refl | false ↦ ih ]

fewer_without : (k : Key) (js : List Key) → has k js ≡ true → length (without k js) + 1 ≡ length js
fewer_without k [] h = absurd (cc)
fewer_without k (j ∷ js) h = ⊎_elim (λ (e : same_key k j ≡ true). rw e (omega arith))
    (λ (e : same_key k j ≡ false). let ih = fewer_without k js (rw e at h) in rw e (omega (arith, ih))) (test (same_key k j))

still_has : (i k : Key) (js : List Key) → same_key k i ≡ false → has i js ≡ true → has i (without k js) ≡ true
still_has i k [] apart h = absurd (cc)
still_has i k (j ∷ js) apart h = ⊎_elim
    (λ (e : same_key k j ≡ true). let other : same_key i j ≡ false = subst (λ z. same_key i z ≡ false) (same_keys k j e) (swapped k i apart) in rw e (rw other at h))
    (λ (e : same_key k j ≡ false). rw e (or_true (same_key i j) (has i (without k js)) (⊎_elim
    (λ (g : same_key i j ≡ true). inl g) (λ (g : has i js ≡ true). inr (still_has i k js apart g)) (either (same_key i j) (has i js) h)))) (test (same_key k j))

other_of : (k i : Key) (js : List Key) → AllByRecursion (λ j. same_key k j ≡ false) js → has i js ≡ true → same_key k i ≡ false
other_of k i [] all h = absurd (cc)
other_of k i (j ∷ js) all h = ⊎_elim
    (λ (e : same_key i j ≡ true). subst (λ z. same_key k z ≡ false) (sym (same_keys i j e)) all.0)
    (λ (e : same_key i j ≡ false). other_of k i js all.1 (rw e at h)) (test (same_key i j))

-- keys that differ and are among others are no more than these
no_more : (ks js : List Key) → IsDistinct same_key ks → ((k : Key) → has k ks ≡ true → has k js ≡ true) → length ks ≤ length js
unfolding IsDistinct
no_more [] js d among = omega arith
no_more (k ∷ ks) js d among =
    let here = among k (or_true (same_key k k) (has k ks) (inl (key_itself k))) in
    let fewer = fewer_without k js here in
    let ih = no_more ks (without k js) d.1 (λ i h. still_has i k js (other_of k i ks d.0 h) (among i (or_true (same_key i k) (has i ks) (inr h)))) in
    omega (arith, fewer, ih)

module _ {F : Type 0} (m : Machine F) (keys : List Key) (most : length keys ≤ m.fixed.capacity) where
  -- cached and claimed keys are among these
  record Among (s : State F) : Type 0 where
    cached : (k : Key) → has_key k s.cache ≡ true → has k keys ≡ true
    claimed : (k : Key) → has_key k s.claims ≡ true → has k keys ≡ true

  some_claim : (w : ℕ) (cs : List (Key × ℕ)) → list_any (λ c. c.1 == w) cs ≡ true → (k : Key) × (has_key k cs ≡ true)
  some_claim w [] h = absurd (cc)
  some_claim w (c ∷ cs) h = ⊎_elim
      (λ (e : (c.1 == w) ≡ true). (c.0, rw (key_itself c.0) refl))
      (λ (e : (c.1 == w) ≡ false). let ih = some_claim w cs (rw e at h) in (ih.0, over ih.0 ih.1)) (test (c.1 == w))
    where
      over : (k : Key) → has_key k cs ≡ true → has_key k (c ∷ cs) ≡ true
      over k h = elim (same_key k c.0) as (λ b. is_some (if b then Some c.1 else at_key k cs) ≡ true) [ true ↦ refl | false ↦ h ]

  first_differs : (k : Key) (cache : List (Key × F)) → at_key k cache ≡ None → Differ cache → IsDistinct same_key (k ∷ keys_of cache)
  unfolding IsDistinct
  first_differs k cache none d = (others k cache none, d)

  full : (s : State F) → Keys m s.cache s.claims → Among s → (k : Key) → has_key k s.claims ≡ true → length s.cache ≡ m.fixed.capacity → ⊥
  full s v a k claim is =
      let l = length-map s.cache (λ (e : Key × F). e.0) in
      let among : (j : Key) → has j (k ∷ keys_of s.cache) ≡ true → has j keys ≡ true = (λ j h. ⊎_elim
      (λ (e : same_key j k ≡ true). subst (λ z. has z keys ≡ true) (sym (same_keys j k e)) (a.claimed k claim))
      (λ (e : has j (keys_of s.cache) ≡ true). a.cached j (sym (key_has j s.cache) ∙ e)) (either (same_key j k) (has j (keys_of s.cache)) h)) in
      let more = no_more (k ∷ keys_of s.cache) keys (first_differs k s.cache (v.apart k claim) v.cached_once) among in
      omega (arith, l, more, most, is)

  put_among : (k : Key) (o : Option F) (cache : List (Key × F)) → ((j : Key) → has_key j cache ≡ true → has j keys ≡ true) → has k keys ≡ true → (j : Key) → has_key j (noted k o cache) ≡ true → has j keys ≡ true
  put_among k None cache cached is j h = cached j h
  put_among k (Some x) cache cached is j h = ⊎_elim
      (λ (e : same_key j k ≡ true). subst (λ z. has z keys ≡ true) (sym (same_keys j k e)) is)
      (λ (e : same_key j k ≡ false). cached j (rw e at h)) (test (same_key j k))

  among_step : (s : State F) (e : Event) → meets m s e ≡ true → ((k : Key) → is_claim k e ≡ true → has k keys ≡ true) → Keys m s.cache s.claims → Among s → (is_eviction e ≡ false) × Among (change m s e)
  among_step s (Hit w k) ok few v a = (refl, record { cached = λ j h. a.cached j (ap is_some (sym (at_fronted j k s.cache)) ∙ h); claimed = a.claimed })
  among_step s (Claim w k) ok few v a = (refl, record { cached = a.cached; claimed = λ j h. ⊎_elim (λ (e : has_key j s.claims ≡ true). a.claimed j e) (λ (e : same_key j k ≡ true). few j e) (some_push j k w s.claims h) })
  among_step s (Enter w i j) ok few v a = (refl, record { cached = a.cached; claimed = a.claimed })
  among_step s (Leave w i j) ok few v a = (refl, record { cached = a.cached; claimed = a.claimed })
  among_step s (Evict w k) ok few v a =
      let c = some_claim w s.claims (left_true _ _ (left_true _ _ (left_true _ _ ok))) in
      absurd (full s v a c.0 c.1 (eqb-true _ _ (right_true _ _ (left_true _ _ ok))))
  among_step s (Publish w k) ok few v a = (
    refl,
    record {
      cached = put_among k (option_map (m.make k) (gathered w (input_keys m.fixed.plan k) s.got)) s.cache a.cached (a.claimed k (ap is_some (its_claim m s w k ok)));
      claimed = λ j h. a.claimed j (some_without j k s.claims h);
    },
  )
  among_step s (Abandon w k) ok few v a = (refl, record { cached = a.cached; claimed = λ j h. a.claimed j (some_without j k s.claims h) })
  among_step s (Take w n) ok few v a = (refl, record { cached = a.cached; claimed = a.claimed })
  among_step s (Deliver w n) ok few v a = (refl, record { cached = a.cached; claimed = a.claimed })
  among_step s (Fail w why) ok few v a = (refl, record { cached = a.cached; claimed = a.claimed })

  among_law : (events : List Event) (s t : State F) → ((k : Key) → has_claimed k events ≡ true → has k keys ≡ true) → Keys m s.cache s.claims → Among s → replay m s events ≡ Some t
      → (has_evicted events ≡ false) × ((k : Key) → has_key k t.cache ≡ true → has k keys ≡ true)
  among_law [] s t few v a ran = (refl, subst (λ (z : State F). (k : Key) → has_key k z.cache ≡ true → has k keys ≡ true) (some_same ran) a.cached)
  among_law (e ∷ es) s t few v a ran = ⊎_elim
      (λ (ok : allowed m s e ≡ true). let met = right_true _ _ (right_true _ _ ok) in
      let step = among_step s e met (λ k h. few k (or_true (is_claim k e) (has_claimed k es) (inl h))) v a in
      let rest = among_law es (change m s e) t (λ k h. few k (or_true (is_claim k e) (has_claimed k es) (inr h))) (keys_step m s e met v) step.1 (rw ok at ran) in
      (rw step.0 rest.0, rest.1))
      (λ (bad : allowed m s e ≡ false). let none : None ≡ Some t = rw bad at ran in absurd (cc)) (test (allowed m s e))

module _ {F : Type 0} (m : Machine F) (places : List Place) (keys : List Key) (most : length keys ≤ m.fixed.capacity) where
  windows_among : {cache after : List (Key × F)} {windows : List WindowEvents} → Differ cache → length cache ≤ m.fixed.capacity → ((k : Key) → has_key k cache ≡ true → has k keys ≡ true)
      → AreRuns m places cache windows after → ((k : Key) → has_claimed k (all_events windows) ≡ true → has k keys ≡ true) → has_evicted (all_events windows) ≡ false
  windows_among differ few cached done claimed = refl
  windows_among {cache = cache} differ few cached (next {v = v} {vs = vs} s ran rest) claimed =
      let n : Machine F = in_window m cache v in
      let start = start_of n cache places in
      let v' = opens m places cache v differ few in
      let one = among_law n keys most v.events start s (λ k h. claimed k (claimed_before k v.events (all_events vs) h)) v' (record { cached = cached; claimed = λ k h. absurd (cc) }) ran in
      let kept = keys_law n v.events start s v' ran in
      none_evicted v.events (all_events vs) one.0 (windows_among kept.cached_once kept.bounded one.1 rest (λ k h. claimed k (claimed_after k v.events (all_events vs) h)))

pub makes_once : (F : Type 0) → MakesOnce F
makes_once F = record {
  once = λ m places cache after windows differ few runs quiet k.
      let total = windows_count m places k differ few runs quiet in
      let most = one_most (has_key k after) in
      omega (arith, total, most);
  enough = λ m places after windows total keys most all runs reached.
      windows_among m places keys most (differ_none F) (omega arith) (λ k h. absurd (cc)) runs (λ k h. all k (reached k h));
}
