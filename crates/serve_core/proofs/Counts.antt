-- How many pass a test.
use Rattle.std.proofs.Common.{◌≡◌, ℕ, zero, suc, ◌+◌, ◌<◌, ◌≤◌, Bool, true, false, if◌then◌else◌, List, [], ◌∷◌, take, set, slice_get, Some, sym, refl, ap, ◌∙◌, subst, ⊎_elim, arith}
use Rattle.std.specs.Map.{lookup, set_value}
use Rattle.serve_core.specs.Kept.{count_of}
use Rattle.frame_cache.proofs.CallerLemmas.{test}

module _ {A : Type 0} (p : A → Bool) where
  -- one that passed is set to one that does not
  pub set_closed : (xs : List A) (n i : ℕ) (x y : A) → i < n → slice_get xs i ≡ Some x → p x ≡ true → p y ≡ false → count_of p (take n (set xs i y)) + 1 ≡ count_of p (take n xs)
  set_closed [] n i x y less at h k = absurd (cc)
  set_closed (z ∷ zs) zero i x y less at h k = absurd (omega arith)
  set_closed (z ∷ zs) (suc n) zero x y less at h k = let same : z ≡ x = cc in let h' : p z ≡ true = ap p same ∙ h in rw h' (rw k refl)
  set_closed (z ∷ zs) (suc n) (suc i) x y less at h k = let ih = set_closed zs n i x y (omega arith) at h k in
      elim (p z) as (λ b. (if b then count_of p (take n (set zs i y)) + 1 else count_of p (take n (set zs i y))) + 1 ≡ (if b then count_of p (take n zs) + 1 else count_of p (take n zs))) [ true ↦ omega arith | false ↦ omega arith ]

  pub take_more : (xs : List A) (n : ℕ) → count_of p (take (n + 1) xs) ≤ count_of p (take n xs) + 1
  take_more xs n = let e : n + 1 ≡ suc n = omega arith in subst (λ m. count_of p (take m xs) ≤ count_of p (take n xs) + 1) (sym e) (go xs n)
    where
      go : (xs : List A) (n : ℕ) → count_of p (take (suc n) xs) ≤ count_of p (take n xs) + 1
      go [] zero = omega arith
      go [] (suc n) = omega arith
      go (x ∷ xs) zero = elim (p x) as (λ b. (if b then 0 + 1 else 0) ≤ 0 + 1) [ true ↦ omega arith | false ↦ omega arith ]
      go (x ∷ xs) (suc n) = let ih = go xs n in elim (p x) as (λ b. (if b then count_of p (take (suc n) xs) + 1 else count_of p (take (suc n) xs)) ≤ (if b then count_of p (take n xs) + 1 else count_of p (take n xs)) + 1) [ true ↦ omega arith | false ↦ omega arith ]

four : (n : ℕ) (a b : Bool) → (if a then n + 1 else n) ≤ (if b then n + 1 else n) + 1
four n true true = omega arith
four n true false = omega arith
four n false true = omega arith
four n false false = omega arith

module _ {K X : Type 0} (p : K × X → Bool) (t : K → Bool) where
  pub value_more : (xs : List (K × X)) (w : X) → count_of p (set_value t xs w) ≤ count_of p xs + 1
  value_more [] w = omega arith
  value_more (x ∷ xs) w = ⊎_elim
      (λ (e : t x.0 ≡ true). rw e (four (count_of p xs) (p (x.0, w)) (p x)))
      (λ (e : t x.0 ≡ false). let ih = value_more xs w in rw e (elim (p x) as (λ b. (if b then count_of p (set_value t xs w) + 1 else count_of p (set_value t xs w)) ≤ (if b then count_of p xs + 1 else count_of p xs) + 1) [ true ↦ omega arith | false ↦ omega arith ])) (test (t x.0))

  pub value_less : (xs : List (K × X)) (v w : X) → lookup t xs ≡ Some v → ((k : K) → p (k, v) ≡ true) → ((k : K) → p (k, w) ≡ false) → count_of p (set_value t xs w) + 1 ≡ count_of p xs
  value_less [] v w at h k = absurd (cc)
  value_less (x ∷ xs) v w at h k = ⊎_elim
      (λ (e : t x.0 ≡ true). let at' : Some x.1 ≡ Some v = rw e at at in let same : x.1 ≡ v = cc in let here : p x ≡ true = ap (λ y. p (x.0, y)) same ∙ h x.0 in rw e (rw (k x.0) (rw here refl)))
      (λ (e : t x.0 ≡ false). let ih = value_less xs v w (rw e at at) h k in rw e (elim (p x) as (λ b. (if b then count_of p (set_value t xs w) + 1 else count_of p (set_value t xs w)) + 1 ≡ (if b then count_of p xs + 1 else count_of p xs)) [ true ↦ omega arith | false ↦ omega arith ])) (test (t x.0))
