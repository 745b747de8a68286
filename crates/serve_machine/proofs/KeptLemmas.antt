-- What each event keeps of the frames, the cache and the claims.
use Rattle.std.proofs.Common.{◌≡◌, ◌⊎◌, ℕ, zero, suc, ◌+◌, ◌-◌, ◌<◌, ◌≤◌, ◌==◌, true, false, ◌&&◌, List, [], ◌∷◌, ◌++◌, map, length, take, set, slice_get, Option, Some, None, sym, refl, ap, ◌∙◌, subst, inl, inr, ⊎_elim, arith}
use Rattle.std.specs.Prelude.{is_some, option_map}
use Rattle.std.specs.Option.{option_map_or}
use Rattle.std.specs.List.{IsDistinct}
use Rattle.std.proofs.lemmas.Bool.{ltb-true, ltb-false}
use Rattle.std.proofs.lemmas.List.{length-take}
use Rattle.fv_plane.specs.declared.key.Key.{Key}
use Rattle.clip_graph.specs.Plan.{Application, input_keys}
use Rattle.frame_cache.specs.Cached.{same_key, at_key, has_key, without_key, fronted, Differ}
use Rattle.frame_cache.proofs.CallerLemmas.{test, left_true, right_true, same_keys, at_fronted, at_take, none_take, some_without, some_push, length_without, others, nowhere, differ_push, differ_without, gone}
use Rattle.serve_machine.specs.declared.event.Event.{Event}
use Rattle.serve_machine.specs.declared.event.Event.TheVariants.{Hit, Claim, Enter, Leave, Evict, Publish, Abandon, Take, Deliver, Fail}
use Rattle.serve_machine.specs.Events.{IsKey, frame_key}
use Rattle.serve_machine.specs.Machine.{State, is_key, noted, with_told, got_at, gathered, Machine, meets, allowed, change, replay}
use Rattle.serve_machine.specs.Law.{AreRight, GotRight, DeliveredRight, Makes}
use Rattle.serve_machine.proofs.TruthLemmas.{by_there, none_there, not_true, some_same}

pub key_is : (plan : List Application) (k : Key) → is_key plan k ≡ true → IsKey plan k
key_is plan k h = record { node = ltb-true _ _ (left_true _ _ h); number = ltb-true _ _ (right_true _ _ h) }

-- the keys of a cache differ
module _ {A : Type 0} where
  pub differ_first : (k : Key) (x : A) (ps : List (Key × A)) → at_key k ps ≡ None → Differ ps → Differ ((k, x) ∷ ps)
  unfolding IsDistinct
  differ_first k x ps h d = (others k ps h, d)

  pub differ_take : (n : ℕ) (ps : List (Key × A)) → Differ ps → Differ (take n ps)
  unfolding IsDistinct
  differ_take zero ps d = tt
  differ_take (suc n) [] d = tt
  differ_take (suc n) (p ∷ ps) d = (others p.0 (take n ps) (none_take p.0 n ps (nowhere p.0 ps d.0)), differ_take n ps d.1)

  pub differ_fronted : (k : Key) (ps : List (Key × A)) → Differ ps → Differ (fronted k ps)
  differ_fronted k ps d = go (at_key k ps)
    where
      go : (o : Option A) → Differ (option_map_or (λ x. (k, x) ∷ without_key k ps) o ps)
      go None = d
      go (Some x) = differ_first k x (without_key k ps) (gone k ps d) (differ_without k ps d)

  pub length_fronted : (k : Key) (ps : List (Key × A)) → length (fronted k ps) ≡ length ps
  length_fronted k ps = go (at_key k ps) refl
    where
      go : (o : Option A) → at_key k ps ≡ o → length (option_map_or (λ x. (k, x) ∷ without_key k ps) o ps) ≡ length ps
      go None e = refl
      go (Some x) e = let l = length_without k ps (ap is_some e) in omega (arith, l)

module _ {F : Type 0} (pix : Key → F) where
  noted_right : (w : ℕ) (k : Key) (o : Option F) (got : List ((ℕ × Key) × F)) → GotRight pix got → ((x : F) → o ≡ Some x → x ≡ pix k) → GotRight pix (noted (w, k) o got)
  noted_right w k None got right is v j x h = right v j x h
  noted_right w k (Some y) got right is v j x h = ⊎_elim
      (λ (e : (w == v && same_key j k) ≡ true). let h' : Some y ≡ Some x = rw e at h in
      sym (some_same h') ∙ (is y refl ∙ ap pix (sym (same_keys j k (right_true _ _ e)))))
      (λ (e : (w == v && same_key j k) ≡ false). right v j x (rw e at h)) (test (w == v && same_key j k))

  -- what a worker gathered is right
  pub gathered_right : (w : ℕ) (ks : List Key) (got : List ((ℕ × Key) × F)) (xs : List F) → GotRight pix got → gathered w ks got ≡ Some xs → xs ≡ map pix ks
  gathered_right w [] got xs right h = sym (some_same h)
  gathered_right w (k ∷ ks) got xs right h = go (λ ys q. gathered_right w ks got ys right q) (got_at w k got) (gathered w ks got) refl refl h
    where
      go : ((ys : List F) → gathered w ks got ≡ Some ys → ys ≡ map pix ks) → (a : Option F) (b : Option (List F)) → got_at w k got ≡ a → gathered w ks got ≡ b → with_told a b ≡ Some xs → xs ≡ map pix (k ∷ ks)
      go more None b p q j = absurd (cc)
      go more (Some x) None p q j = absurd (cc)
      go more (Some x) (Some ys) p q j = let one = right w k x p in let rest = more ys q in sym (some_same j) ∙ (λ i. one i ∷ rest i)

  set_right : (root first : ℕ) (frames : List (Option F)) (i : ℕ) (o : Option F) → DeliveredRight pix root first frames → ((x : F) → o ≡ Some x → x ≡ pix (frame_key root (first + i)))
      → DeliveredRight pix root first (set frames i o)
  set_right root first frames i o right is j x h = ⊎_elim (λ (e : slice_get frames j ≡ Some (Some x)). right j x e)
      (λ (e : (i ≡ j) × (o ≡ Some x)). is x e.1 ∙ ap (λ n. pix (frame_key root (first + n))) e.0) (set_other frames i j h)
    where
      set_other : (frames : List (Option F)) (i j : ℕ) → slice_get (set frames i o) j ≡ Some (Some x) → (slice_get frames j ≡ Some (Some x)) ⊎ ((i ≡ j) × (o ≡ Some x))
      set_other [] i j h = inl h
      set_other (z ∷ zs) zero zero h = inr (refl, some_same h)
      set_other (z ∷ zs) zero (suc j) h = inl h
      set_other (z ∷ zs) (suc i) zero h = inl h
      set_other (z ∷ zs) (suc i) (suc j) h = ⊎_elim (λ (e : slice_get zs j ≡ Some (Some x)). inl e) (λ (e : (i ≡ j) × (o ≡ Some x)). inr (ap (λ n. suc n) e.0, e.1)) (set_other zs i j h)

  first_right : (k : Key) (y : F) (cache : List (Key × F)) → AreRight pix cache → y ≡ pix k → AreRight pix ((k, y) ∷ cache)
  first_right k y cache right is j x h = ⊎_elim
      (λ (e : same_key j k ≡ true). let h' : Some y ≡ Some x = rw e at h in sym (some_same h') ∙ (is ∙ ap pix (sym (same_keys j k e))))
      (λ (e : same_key j k ≡ false). right j x (rw e at h)) (test (same_key j k))

module _ {F : Type 0} (m : Machine F) where
  -- over the cache and the claims, so that an event that changes neither has nothing to show
  pub record Keys (cache : List (Key × F)) (claims : List (Key × ℕ)) : Type 0 where
    pub cached_once : Differ cache
    pub claimed_once : Differ claims
    pub apart : (k : Key) → has_key k claims ≡ true → at_key k cache ≡ None
    pub claimed : (k : Key) → has_key k claims ≡ true → IsKey m.fixed.plan k
    pub bounded : length cache ≤ m.fixed.capacity

  claim_keys : (s : State F) (w : ℕ) (k : Key) → meets m s (Claim w k) ≡ true → Keys s.cache s.claims → Keys s.cache (s.claims ++ (k, w) ∷ [])
  claim_keys s w k ok v =
      let key = key_is m.fixed.plan k (left_true _ _ (left_true _ _ (left_true _ _ ok))) in
      let uncached = none_there (at_key k s.cache) (right_true _ _ (left_true _ _ (left_true _ _ ok))) in
      let unclaimed = none_there (at_key k s.claims) (right_true _ _ (left_true _ _ ok)) in
      record {
        cached_once = v.cached_once;
        claimed_once = differ_push k w s.claims unclaimed v.claimed_once;
        apart = λ j h. ⊎_elim (λ (e : has_key j s.claims ≡ true). v.apart j e)
            (λ (e : same_key j k ≡ true). subst (λ z. at_key z s.cache ≡ None) (sym (same_keys j k e)) uncached) (some_push j k w s.claims h);
        claimed = λ j h. ⊎_elim (λ (e : has_key j s.claims ≡ true). v.claimed j e)
            (λ (e : same_key j k ≡ true). subst (IsKey m.fixed.plan) (sym (same_keys j k e)) key) (some_push j k w s.claims h);
        bounded = v.bounded;
      }

  closed_keys : (k : Key) (cache : List (Key × F)) (claims : List (Key × ℕ)) → Keys cache claims → Keys cache (without_key k claims)
  closed_keys k cache claims v = record {
    cached_once = v.cached_once;
    claimed_once = differ_without k claims v.claimed_once;
    apart = λ j h. v.apart j (some_without j k claims h);
    claimed = λ j h. v.claimed j (some_without j k claims h);
    bounded = v.bounded;
  }

  put_keys : (k : Key) (o : Option F) (cache : List (Key × F)) (claims : List (Key × ℕ)) → has_key k claims ≡ true → length cache < m.fixed.capacity → Keys cache claims
      → Keys (noted k o cache) (without_key k claims)
  put_keys k None cache claims claim room v = closed_keys k cache claims v
  put_keys k (Some y) cache claims claim room v = record {
    cached_once = differ_first k y cache (v.apart k claim) v.cached_once;
    claimed_once = differ_without k claims v.claimed_once;
    apart = λ j h. ⊎_elim
        (λ (e : same_key j k ≡ true). let none : at_key j (without_key k claims) ≡ None = subst (λ z. at_key z (without_key k claims) ≡ None) (sym (same_keys j k e)) (gone k claims v.claimed_once) in
        let bad : false ≡ true = sym (ap is_some none) ∙ h in absurd (cc))
        (λ (e : same_key j k ≡ false). rw e (v.apart j (some_without j k claims h))) (test (same_key j k));
    claimed = λ j h. v.claimed j (some_without j k claims h);
    bounded = omega arith;
  }

  -- the claim of a publication
  pub its_claim : (s : State F) (w : ℕ) (k : Key) → meets m s (Publish w k) ≡ true → at_key k s.claims ≡ Some w
  its_claim s w k ok = by_there w (at_key k s.claims) (left_true _ _ (left_true _ _ (left_true _ _ ok)))

  pub keys_step : (s : State F) (e : Event) → meets m s e ≡ true → Keys s.cache s.claims → Keys (change m s e).cache (change m s e).claims
  keys_step s (Hit w k) ok v = let l = length_fronted k s.cache in let b = v.bounded in record {
    cached_once = differ_fronted k s.cache v.cached_once;
    claimed_once = v.claimed_once;
    apart = λ j h. at_fronted j k s.cache ∙ v.apart j h;
    claimed = v.claimed;
    bounded = omega (arith, l, b);
  }
  keys_step s (Claim w k) ok v = claim_keys s w k ok v
  keys_step s (Enter w i j) ok v = v
  keys_step s (Leave w i j) ok v = v
  keys_step s (Evict w k) ok v = let l = length-take (m.fixed.capacity - 1) s.cache in let b = v.bounded in record {
    cached_once = differ_take (m.fixed.capacity - 1) s.cache v.cached_once;
    claimed_once = v.claimed_once;
    apart = λ j h. none_take j (m.fixed.capacity - 1) s.cache (v.apart j h);
    claimed = v.claimed;
    bounded = omega (arith, l, b);
  }
  keys_step s (Publish w k) ok v =
      put_keys k (option_map (m.make k) (gathered w (input_keys m.fixed.plan k) s.got)) s.cache s.claims (ap is_some (its_claim s w k ok)) (ltb-true _ _ (right_true _ _ ok)) v
  keys_step s (Abandon w k) ok v = closed_keys k s.cache s.claims v
  keys_step s (Take w n) ok v = v
  keys_step s (Deliver w n) ok v = v
  keys_step s (Fail w why) ok v = v

  pub keys_law : (events : List Event) (s t : State F) → Keys s.cache s.claims → replay m s events ≡ Some t → Keys t.cache t.claims
  keys_law [] s t v ran = subst (λ (z : State F). Keys z.cache z.claims) (some_same ran) v
  keys_law (e ∷ es) s t v ran = ⊎_elim
      (λ (ok : allowed m s e ≡ true). keys_law es (change m s e) t (keys_step s e (right_true _ _ (right_true _ _ ok)) v) (rw ok at ran))
      (λ (bad : allowed m s e ≡ false). let none : None ≡ Some t = rw bad at ran in absurd (cc)) (test (allowed m s e))

module _ {F : Type 0} (m : Machine F) (pix : Key → F) (makes : Makes m pix) where
  -- over what holds frames
  pub record Frames (cache : List (Key × F)) (gs : List ((ℕ × Key) × F)) (frames : List (Option F)) : Type 0 where
    pub cached : AreRight pix cache
    pub got : GotRight pix gs
    pub delivered : DeliveredRight pix m.fixed.root m.fixed.first frames

  put_frames : (s : State F) (w : ℕ) (k : Key) (o : Option F) → ((x : F) → o ≡ Some x → x ≡ pix k) → Frames s.cache s.got s.frames → Frames (noted k o s.cache) (noted (w, k) o s.got) s.frames
  put_frames s w k None is v = v
  put_frames s w k (Some y) is v = record { cached = first_right pix k y s.cache v.cached (is y refl); got = noted_right pix w k (Some y) s.got v.got is; delivered = v.delivered }

  publishes : (s : State F) (w : ℕ) (k : Key) → IsKey m.fixed.plan k → Frames s.cache s.got s.frames → Frames (change m s (Publish w k)).cache (change m s (Publish w k)).got s.frames
  publishes s w k key v = put_frames s w k (option_map (m.make k) (gathered w (input_keys m.fixed.plan k) s.got)) (made (gathered w (input_keys m.fixed.plan k) s.got) refl) v
    where
      made : (o : Option (List F)) → gathered w (input_keys m.fixed.plan k) s.got ≡ o → (x : F) → option_map (m.make k) o ≡ Some x → x ≡ pix k
      made None is x h = absurd (cc)
      made (Some xs) is x h = sym (some_same h) ∙ (ap (m.make k) (gathered_right pix w (input_keys m.fixed.plan k) s.got xs v.got is) ∙ makes k key)

  delivers : (s : State F) (w n : ℕ) → meets m s (Deliver w n) ≡ true → Frames s.cache s.got s.frames → Frames s.cache s.got (change m s (Deliver w n)).frames
  delivers s w n ok v =
      let low = ltb-false n m.fixed.first (not_true _ (left_true _ _ (left_true _ _ (left_true _ _ ok)))) in
      let at : m.fixed.first + (n - m.fixed.first) ≡ n = omega (arith, low) in
      record {
        cached = v.cached;
        got = v.got;
        delivered = set_right pix m.fixed.root m.fixed.first s.frames (n - m.fixed.first) (got_at w (frame_key m.fixed.root n) s.got) v.delivered
            (λ x h. v.got w (frame_key m.fixed.root n) x h ∙ ap (λ z. pix (frame_key m.fixed.root z)) (sym at));
      }

  frames_step : (s : State F) (e : Event) → meets m s e ≡ true → Keys m s.cache s.claims → Frames s.cache s.got s.frames → Frames (change m s e).cache (change m s e).got (change m s e).frames
  frames_step s (Hit w k) ok keys v = record {
    cached = λ j x h. v.cached j x (sym (at_fronted j k s.cache) ∙ h);
    got = noted_right pix w k (at_key k s.cache) s.got v.got (v.cached k);
    delivered = v.delivered;
  }
  frames_step s (Claim w k) ok keys v = v
  frames_step s (Enter w i j) ok keys v = v
  frames_step s (Leave w i j) ok keys v = v
  frames_step s (Evict w k) ok keys v = record { cached = λ j x h. v.cached j x (at_take j (m.fixed.capacity - 1) s.cache x h); got = v.got; delivered = v.delivered }
  frames_step s (Publish w k) ok keys v = publishes s w k (keys.claimed k (ap is_some (its_claim m s w k ok))) v
  frames_step s (Abandon w k) ok keys v = v
  frames_step s (Take w n) ok keys v = v
  frames_step s (Deliver w n) ok keys v = delivers s w n ok v
  frames_step s (Fail w why) ok keys v = v

  pub frames_law : (events : List Event) (s t : State F) → Keys m s.cache s.claims → Frames s.cache s.got s.frames → replay m s events ≡ Some t → Frames t.cache t.got t.frames
  frames_law [] s t keys v ran = subst (λ (z : State F). Frames z.cache z.got z.frames) (some_same ran) v
  frames_law (e ∷ es) s t keys v ran = ⊎_elim
      (λ (ok : allowed m s e ≡ true). let met = right_true _ _ (right_true _ _ ok) in
      frames_law es (change m s e) t (keys_step m s e met keys) (frames_step s e met keys v) (rw ok at ran))
      (λ (bad : allowed m s e ≡ false). let none : None ≡ Some t = rw bad at ran in absurd (cc)) (test (allowed m s e))
