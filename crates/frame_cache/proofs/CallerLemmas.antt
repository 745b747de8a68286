-- Lists of pairs by key: what each word does to a look-up, to the length, and to the keys' being distinct.
use Rattle.std.proofs.Common.{◌≡◌, ◌⊎◌, ℕ, zero, suc, ◌+◌, ◌-◌, ◌<◌, ◌≤◌, Bool, true, false, ◌&&◌, if◌then◌else◌, List, [], ◌∷◌, ◌++◌, length, take, Option, Some, None, IsSome, sym, refl, ap, ◌∙◌, subst, inl, inr, ⊎_elim, arith, eq-eqb}
use Rattle.std.proofs.lemmas.Bool.{eqb-true}
use Rattle.std.specs.Prelude.{is_some, slice_get}
use Rattle.std.specs.Option.{option_map_or}
use Rattle.std.specs.List.{IsDistinct, AllByRecursion, position_or_len, remove}
use Rattle.std.specs.Map.{keys_of}
use Rattle.fv_plane.specs.declared.key.Key.{Key}
use Rattle.frame_cache.specs.Cached.{same_key, at_key, has_key, without_key, fronted, put_first, dropped_key, Differ}

-- keys
pub test : (b : Bool) → (b ≡ true) ⊎ (b ≡ false)
test true = inl refl
test false = inr refl

pub left_true : (a b : Bool) → (a && b) ≡ true → a ≡ true
left_true true b h = refl
left_true false b h = h

pub right_true : (a b : Bool) → (a && b) ≡ true → b ≡ true
right_true true b h = h
right_true false b h = absurd (cc)

pub same_keys : (a b : Key) → same_key a b ≡ true → a ≡ b
same_keys a b h = let p : a.node ≡ b.node = eqb-true a.node b.node (left_true _ _ h) in let q : a.n ≡ b.n = eqb-true a.n b.n (right_true _ _ h) in λ i. record { node = p i; n = q i }

pub key_itself : (k : Key) → same_key k k ≡ true
key_itself k = rw (eq-eqb k.node k.node refl) (eq-eqb k.n k.n refl)

pub swapped : (j k : Key) → same_key j k ≡ false → same_key k j ≡ false
swapped j k h = ⊎_elim (λ (e : same_key k j ≡ true). let same = same_keys k j e in let e' : same_key j k ≡ true = subst (λ z. same_key z k ≡ true) same (key_itself k) in absurd (cc)) (λ (e : same_key k j ≡ false). e) (test (same_key k j))

-- whether there is a value
pub absent : {A : Type 0} → (o : Option A) → is_some o ≡ false → o ≡ None
absent None h = refl
absent (Some x) h = absurd (cc)

pub present : {A : Type 0} → (o : Option A) (x : A) → o ≡ Some x → is_some o ≡ true
present o x h = ap is_some h

module _ {A : Type 0} where
  -- look-ups
  pub at_without : (j k : Key) (ps : List (Key × A)) → same_key j k ≡ false → at_key j (without_key k ps) ≡ at_key j ps
  at_without j k [] h = refl
  at_without j k (p ∷ ps) h = ⊎_elim
      (λ (e : same_key k p.0 ≡ true). let same = same_keys k p.0 e in let h' : same_key j p.0 ≡ false = subst (λ z. same_key j z ≡ false) same h in rw e (rw h' refl))
      (λ (e : same_key k p.0 ≡ false). rw e (elim (same_key j p.0) as (λ b. (if b then Some p.1 else at_key j (without_key k ps)) ≡ (if b then Some p.1 else at_key j ps)) [ true ↦ refl | false ↦ at_without j k ps h ])) (test (same_key k p.0))

  pub at_fronted : (j k : Key) (ps : List (Key × A)) → at_key j (fronted k ps) ≡ at_key j ps
  at_fronted j k ps = go (at_key k ps) refl
    where
      go : (o : Option A) → at_key k ps ≡ o → at_key j (option_map_or (λ x. (k, x) ∷ without_key k ps) o ps) ≡ at_key j ps
      go None e = refl
      go (Some x) e = ⊎_elim (λ (h : same_key j k ≡ true). rw h (sym e ∙ ap (λ z. at_key z ps) (sym (same_keys j k h)))) (λ (h : same_key j k ≡ false). rw h (at_without j k ps h)) (test (same_key j k))

  pub at_take : (j : Key) (n : ℕ) (ps : List (Key × A)) (x : A) → at_key j (take n ps) ≡ Some x → at_key j ps ≡ Some x
  at_take j zero ps x h = absurd (cc)
  at_take j (suc n) [] x h = h
  at_take j (suc n) (p ∷ ps) x h = ⊎_elim (λ (e : same_key j p.0 ≡ true). rw e (rw e at h)) (λ (e : same_key j p.0 ≡ false). rw e (at_take j n ps x (rw e at h))) (test (same_key j p.0))

  pub none_take : (j : Key) (n : ℕ) (ps : List (Key × A)) → at_key j ps ≡ None → at_key j (take n ps) ≡ None
  none_take j zero ps h = refl
  none_take j (suc n) [] h = refl
  none_take j (suc n) (p ∷ ps) h = ⊎_elim (λ (e : same_key j p.0 ≡ true). let bad : Some p.1 ≡ None = rw e at h in absurd (cc)) (λ (e : same_key j p.0 ≡ false). rw e (none_take j n ps (rw e at h))) (test (same_key j p.0))

  pub at_put : (k : Key) (most : ℕ) (x : A) (ps : List (Key × A)) → at_key k (put_first most k x ps) ≡ Some x
  at_put k most x ps = rw (key_itself k) refl

  -- a pair after a put was there before, or is the new one
  pub at_put_other : (j k : Key) (most : ℕ) (x y : A) (ps : List (Key × A)) → same_key j k ≡ false → at_key j (put_first most k x ps) ≡ Some y → at_key j ps ≡ Some y
  at_put_other j k most x y ps e h = at_take j (most - 1) ps y (rw e at h)

  pub none_put : (j k : Key) (most : ℕ) (x : A) (ps : List (Key × A)) → same_key j k ≡ false → at_key j ps ≡ None → at_key j (put_first most k x ps) ≡ None
  none_put j k most x ps e h = rw e (none_take j (most - 1) ps h)

  pub none_without : (j k : Key) (ps : List (Key × A)) → at_key j ps ≡ None → at_key j (without_key k ps) ≡ None
  none_without j k [] h = refl
  none_without j k (p ∷ ps) h = ⊎_elim (λ (e : same_key j p.0 ≡ true). let bad : Some p.1 ≡ None = rw e at h in absurd (cc))
      (λ (e : same_key j p.0 ≡ false). let h' : at_key j ps ≡ None = rw e at h in elim (same_key k p.0) as (λ b. at_key j (if b then ps else p ∷ without_key k ps) ≡ None) [ true ↦ h' | false ↦ rw e (none_without j k ps h') ]) (test (same_key j p.0))

  pub none_push : (j k : Key) (x : A) (ps : List (Key × A)) → same_key j k ≡ false → at_key j ps ≡ None → at_key j (ps ++ (k, x) ∷ []) ≡ None
  none_push j k x [] e h = rw e refl
  none_push j k x (p ∷ ps) e h = ⊎_elim (λ (f : same_key j p.0 ≡ true). let bad : Some p.1 ≡ None = rw f at h in absurd (cc)) (λ (f : same_key j p.0 ≡ false). rw f (none_push j k x ps e (rw f at h))) (test (same_key j p.0))

  pub some_without : (j k : Key) (ps : List (Key × A)) → has_key j (without_key k ps) ≡ true → has_key j ps ≡ true
  some_without j k ps h = ⊎_elim (λ (e : has_key j ps ≡ true). e) (λ (e : has_key j ps ≡ false). let none = none_without j k ps (absent (at_key j ps) e) in let bad : false ≡ true = sym (ap is_some none) ∙ h in absurd (cc)) (test (has_key j ps))

  pub some_push : (j k : Key) (x : A) (ps : List (Key × A)) → has_key j (ps ++ (k, x) ∷ []) ≡ true → (has_key j ps ≡ true) ⊎ (same_key j k ≡ true)
  some_push j k x ps h = ⊎_elim (λ (e : has_key j ps ≡ true). inl e)
      (λ (e : has_key j ps ≡ false). ⊎_elim (λ (f : same_key j k ≡ true). inr f)
      (λ (f : same_key j k ≡ false). let bad : false ≡ true = sym (ap is_some (none_push j k x ps f (absent (at_key j ps) e))) ∙ h in absurd (cc)) (test (same_key j k))) (test (has_key j ps))

  -- lengths
  pub length_without : (k : Key) (ps : List (Key × A)) → has_key k ps ≡ true → length (without_key k ps) + 1 ≡ length ps
  length_without k [] h = absurd (cc)
  length_without k (p ∷ ps) h = ⊎_elim (λ (e : same_key k p.0 ≡ true). rw e (omega arith)) (λ (e : same_key k p.0 ≡ false). let ih = length_without k ps (rw e at h) in rw e (omega arith)) (test (same_key k p.0))

  -- the last key goes exactly where the list is full
  pub none_dropped : (most : ℕ) (ps : List (Key × A)) → length ps < most → dropped_key most ps ≡ None
  none_dropped most ps h = past ps (most - 1) (omega arith)
    where
      past : (ps : List (Key × A)) (i : ℕ) → length ps ≤ i → slice_get (keys_of ps) i ≡ None
      past [] i h = refl
      past (p ∷ ps) zero h = absurd (omega arith)
      past (p ∷ ps) (suc i) h = past ps i (omega arith)

  pub some_dropped : (most : ℕ) (ps : List (Key × A)) → 0 < most → length ps ≡ most → IsSome (dropped_key most ps)
  some_dropped most ps some h = within ps (most - 1) (omega arith)
    where
      within : (ps : List (Key × A)) (i : ℕ) → i < length ps → IsSome (slice_get (keys_of ps) i)
      within [] i h = absurd (omega arith)
      within (p ∷ ps) zero h = refl
      within (p ∷ ps) (suc i) h = within ps i (omega arith)

  -- taking a key out by its place
  pub remove_is : (k : Key) (ps : List (Key × A)) (i : ℕ) → i ≡ position_or_len (λ e. same_key k e.0) ps → i < length ps → remove ps i ≡ without_key k ps
  remove_is k [] i is less = absurd (omega arith)
  remove_is k (p ∷ ps) zero is less = ⊎_elim (λ (h : same_key k p.0 ≡ true). rw h refl)
      (λ (h : same_key k p.0 ≡ false). let is' : 0 ≡ 1 + position_or_len (λ e. same_key k e.0) ps = rw h at is in absurd (omega arith)) (test (same_key k p.0))
  remove_is k (p ∷ ps) (suc i) is less = ⊎_elim (λ (h : same_key k p.0 ≡ true). let is' : suc i ≡ 0 = rw h at is in absurd (omega arith))
      (λ (h : same_key k p.0 ≡ false). let is' : suc i ≡ 1 + position_or_len (λ e. same_key k e.0) ps = rw h at is in rw h (ap (λ l. p ∷ l) (remove_is k ps i (omega arith) (omega arith)))) (test (same_key k p.0))

  -- distinct keys
  pub others : (k : Key) (ps : List (Key × A)) → at_key k ps ≡ None → AllByRecursion (λ j. same_key k j ≡ false) (keys_of ps)
  others k [] h = tt
  others k (p ∷ ps) h = ⊎_elim (λ (e : same_key k p.0 ≡ true). let bad : Some p.1 ≡ None = rw e at h in absurd (cc)) (λ (e : same_key k p.0 ≡ false). (e, others k ps (rw e at h))) (test (same_key k p.0))

  pub nowhere : (k : Key) (ps : List (Key × A)) → AllByRecursion (λ j. same_key k j ≡ false) (keys_of ps) → at_key k ps ≡ None
  nowhere k [] h = refl
  nowhere k (p ∷ ps) h = rw h.0 (nowhere k ps h.1)

  pub differ_push : (k : Key) (x : A) (ps : List (Key × A)) → at_key k ps ≡ None → Differ ps → Differ (ps ++ (k, x) ∷ [])
  unfolding IsDistinct
  differ_push k x [] h d = (tt, tt)
  differ_push k x (p ∷ ps) h d = ⊎_elim (λ (e : same_key k p.0 ≡ true). let bad : Some p.1 ≡ None = rw e at h in absurd (cc))
      (λ (e : same_key k p.0 ≡ false). (others p.0 (ps ++ (k, x) ∷ []) (none_push p.0 k x ps (swapped k p.0 e) (nowhere p.0 ps d.0)), differ_push k x ps (rw e at h) d.1)) (test (same_key k p.0))

  pub differ_without : (k : Key) (ps : List (Key × A)) → Differ ps → Differ (without_key k ps)
  unfolding IsDistinct
  differ_without k [] d = tt
  differ_without k (p ∷ ps) d = elim (same_key k p.0) as (λ b. Differ (if b then ps else p ∷ without_key k ps)) [ true ↦ d.1 | false ↦ (others p.0 (without_key k ps) (none_without p.0 k ps (nowhere p.0 ps d.0)), differ_without k ps d.1) ]

  -- a key that is taken out isn't there
  pub gone : (k : Key) (ps : List (Key × A)) → Differ ps → at_key k (without_key k ps) ≡ None
  unfolding IsDistinct
  gone k [] d = refl
  gone k (p ∷ ps) d = ⊎_elim (λ (e : same_key k p.0 ≡ true). rw e (subst (λ j. at_key j ps ≡ None) (sym (same_keys k p.0 e)) (nowhere p.0 ps d.0))) (λ (e : same_key k p.0 ≡ false). rw e (rw e (gone k ps d.1))) (test (same_key k p.0))
