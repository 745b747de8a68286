-- The keys of a cache as the serial run has them, and claims.
use Rattle.std.proofs.Common.{◌≡◌, ℕ, zero, suc, ◌+◌, ◌-◌, ◌≤◌, ◌==◌, true, false, ◌&&◌, ◌||◌, if◌then◌else◌, List, [], ◌∷◌, ◌++◌, take, Some, None, sym, refl, ap, ◌∙◌, arith, ⊎_elim, ne_eqb, eq-eqb}
use Rattle.std.specs.Prelude.{is_some}
use Rattle.std.specs.Option.{option_map_or}
use Rattle.std.specs.Map.{keys_of}
use Rattle.fv_plane.specs.declared.key.Key.{Key}
use Rattle.frame_cache.specs.Cached.{same_key, at_key, has_key, without_key, fronted, put_first}
use Rattle.frame_cache.proofs.CallerLemmas.{test, same_keys, key_itself}
use Rattle.serve_machine.specs.Events.{has, without}
use Rattle.serve_core.specs.Holds.{claims_at}
use Rattle.serve_alone.specs.Alone.{AllFrom}

module _ {A : Type 0} where
  pub has_keys : (k : Key) (ps : List (Key × A)) → has k (keys_of ps) ≡ has_key k ps
  has_keys k [] = refl
  has_keys k (p ∷ ps) = let ih = has_keys k ps in elim (same_key k p.0) as (λ b. (b || has k (keys_of ps)) ≡ is_some (if b then Some p.1 else at_key k ps)) [ true ↦ refl | false ↦ ih ]

  keys_without : (k : Key) (ps : List (Key × A)) → keys_of (without_key k ps) ≡ without k (keys_of ps)
  keys_without k [] = refl
  keys_without k (p ∷ ps) = let ih = keys_without k ps in elim (same_key k p.0) as (λ b. keys_of (if b then ps else p ∷ without_key k ps) ≡ (if b then keys_of ps else p.0 ∷ without k (keys_of ps))) [ true ↦ refl | false ↦ ap (λ l. p.0 ∷ l) ih ]

  pub keys_fronted : (k : Key) (x : A) (ps : List (Key × A)) → at_key k ps ≡ Some x → keys_of (fronted k ps) ≡ k ∷ without k (keys_of ps)
  keys_fronted k x ps at = ap (λ o. keys_of (option_map_or (λ y. (k, y) ∷ without_key k ps) o ps)) at ∙ ap (λ l. k ∷ l) (keys_without k ps)

  keys_take : (n : ℕ) (ps : List (Key × A)) → keys_of (take n ps) ≡ take n (keys_of ps)
  keys_take zero ps = refl
  keys_take (suc n) [] = refl
  keys_take (suc n) (p ∷ ps) = ap (λ l. p.0 ∷ l) (keys_take n ps)

  pub keys_put : (most : ℕ) (k : Key) (x : A) (ps : List (Key × A)) → keys_of (put_first most k x ps) ≡ k ∷ take (most - 1) (keys_of ps)
  keys_put most k x ps = ap (λ l. k ∷ l) (keys_take (most - 1) ps)

-- claims on later nodes

pub not_there : (k : Key) (cs : List (Key × ℕ)) → AllFrom (k.node + 1) cs → at_key k cs ≡ None
not_there k [] a = refl
not_there k (c ∷ cs) a =
    let above = a.0 in
    let apart : (k.node == (c.0).node) ≡ false = ne_eqb k.node (c.0).node (λ e. omega arith) in
    let other : same_key k c.0 ≡ false = ap (λ b. b && k.n == (c.0).n) apart in
    rw other (not_there k cs a.1)

pub never_there : (k : Key) (w : ℕ) (cs : List (Key × ℕ)) → AllFrom (k.node + 1) cs → at_key k cs ≡ Some w → ⊥
never_there k w cs a h = let bad : None ≡ Some w = sym (not_there k cs a) ∙ h in absurd (cc)

pub claims_from : (k : Key) (w : ℕ) (cs : List (Key × ℕ)) → AllFrom (k.node + 1) cs → AllFrom k.node (cs ++ (k, w) ∷ [])
claims_from k w [] a = (omega arith, tt)
claims_from k w (c ∷ cs) a = let above = a.0 in (omega arith, claims_from k w cs a.1)

pub fewer_from : (m n : ℕ) (cs : List (Key × ℕ)) → m ≤ n → AllFrom n cs → AllFrom m cs
fewer_from m n [] le a = tt
fewer_from m n (c ∷ cs) le a = let above = a.0 in (omega arith, fewer_from m n cs le a.1)

pub last_claim : (k : Key) (w : ℕ) (cs : List (Key × ℕ)) → at_key k cs ≡ None → at_key k (cs ++ (k, w) ∷ []) ≡ Some w
last_claim k w [] h = rw (key_itself k) refl
last_claim k w (c ∷ cs) h = ⊎_elim
    (λ (e : same_key k c.0 ≡ true). let bad : Some c.1 ≡ None = rw e at h in absurd (cc))
    (λ (e : same_key k c.0 ≡ false). rw e (last_claim k w cs (rw e at h))) (test (same_key k c.0))

pub closed_claim : (k : Key) (w : ℕ) (cs : List (Key × ℕ)) → at_key k cs ≡ None → without_key k (cs ++ (k, w) ∷ []) ≡ cs
closed_claim k w [] h = rw (key_itself k) refl
closed_claim k w (c ∷ cs) h = ⊎_elim
    (λ (e : same_key k c.0 ≡ true). let bad : Some c.1 ≡ None = rw e at h in absurd (cc))
    (λ (e : same_key k c.0 ≡ false). rw e (ap (λ l. c ∷ l) (closed_claim k w cs (rw e at h)))) (test (same_key k c.0))

pub claim_at : (k : Key) (w : ℕ) (cs : List (Key × ℕ)) → at_key k cs ≡ Some w → claims_at w k.node cs ≡ true
claim_at k w [] h = absurd (cc)
claim_at k w (c ∷ cs) h = ⊎_elim
    (λ (e : same_key k c.0 ≡ true).
    let h' : Some c.1 ≡ Some w = rw e at h in
    let same : c.1 ≡ w = cc in
    let key : k ≡ c.0 = same_keys k c.0 e in
    rw (eq-eqb c.1 w same) (rw (eq-eqb (c.0).node k.node (ap (λ z. z.node) (sym key))) refl))
    (λ (e : same_key k c.0 ≡ false).
    let ih = claim_at k w cs (rw e at h) in
    elim (c.1 == w && (c.0).node == k.node) as (λ b. (b || claims_at w k.node cs) ≡ true) [ true ↦ refl | false ↦ ih ]) (test (same_key k c.0))
