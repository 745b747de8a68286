-- Claims that are opened and closed.
use Rattle.std.proofs.Common.{◌≡◌, ℕ, ◌+◌, ◌-◌, Bool, true, false, ◌&&◌, ◌||◌, cond, List, [], ◌∷◌, ◌++◌, Some, None, refl, sym, ap, ◌∙◌, subst, ⊎_elim, arith}
use Rattle.std.specs.Prelude.{◌==◌, if◌then◌else◌, nat_lt}
use Rattle.std.specs.List.{list_any}
use Rattle.std.specs.HashMap.{get, hash_map_len}
use Rattle.std.proofs.lemmas.Bool.{lt-ltb}
use Rattle.std.proofs.lemmas.List.{length-append}
use Rattle.fv_plane.specs.declared.key.Key.{Key}
use Rattle.frame_cache.specs.Cached.{same_key, at_key, without_key}
use Rattle.frame_cache.proofs.CallerLemmas.{same_keys, key_itself, swapped, at_without, gone, length_without, differ_push, differ_without, present}
use Rattle.serve_machine.specs.Machine.{claims_at}
use Rattle.run_check.specs.declared.tally.Seat.{Seat}
use Rattle.run_check.specs.declared.claims.Claims.{Claims}
use Rattle.run_check.specs.Tallies.{same_seat, count_at}
use Rattle.run_check.specs.Claims.{number_by, number_at, number_of, AreClaims}
use Rattle.run_check.proofs.TallyLemmas.{test}

-- LISTS

-- one more key
pub at_push : {A : Type 0} (j k : Key) (x : A) (ps : List (Key × A)) → at_key k ps ≡ None → at_key j (ps ++ (k, x) ∷ []) ≡ cond (same_key k j) (Some x) (at_key j ps)
at_push j k x [] none = ⊎_elim
    (λ (e : same_key k j ≡ true). rw (subst (λ z. same_key z k ≡ true) (same_keys k j e) (key_itself k)) (rw e refl))
    (λ (e : same_key k j ≡ false). rw (swapped k j e) (rw e refl)) (test (same_key k j))
at_push j k x (p ∷ ps) none = ⊎_elim
    (λ (bad : same_key k p.0 ≡ true). let no : Some p.1 ≡ None = rw bad at none in absurd (cc))
    (λ (other : same_key k p.0 ≡ false). ⊎_elim
    (λ (here : same_key j p.0 ≡ true).
    let apart : same_key k j ≡ false = subst (λ z. same_key k z ≡ false) (sym (same_keys j p.0 here)) other in
    rw here (rw apart refl))
    (λ (there : same_key j p.0 ≡ false). rw there (at_push j k x ps (rw other at none))) (test (same_key j p.0))) (test (same_key k p.0))

module _ {X : Type 0} (p : X → Bool) where
  pub count_push : (xs : List X) (x : X) → number_by p (xs ++ x ∷ []) ≡ number_by p xs + cond (p x) 1 0
  count_push [] x = omega arith
  count_push (y ∷ ys) x = let ih = count_push ys x in omega arith

  pub any_count : (xs : List X) → list_any p xs ≡ nat_lt 0 (number_by p xs)
  any_count [] = refl
  any_count (x ∷ xs) = ⊎_elim
      (λ (e : p x ≡ true). rw e (sym (lt-ltb 0 (1 + number_by p xs) (omega arith))))
      (λ (e : p x ≡ false). let n : 0 + number_by p xs ≡ number_by p xs = omega arith in rw e (rw n (any_count xs))) (test (p x))

pub count_without : (p : Key × ℕ → Bool) (k : Key) (w : ℕ) (cs : List (Key × ℕ)) → at_key k cs ≡ Some w → number_by p (without_key k cs) + cond (p (k, w)) 1 0 ≡ number_by p cs
count_without p k w [] h = absurd (cc)
count_without p k w (c ∷ cs) h = ⊎_elim
    (λ (here : same_key k c.0 ≡ true).
    let value : Some c.1 ≡ Some w = rw here at h in
    let v : c.1 ≡ w = cc in
    let same : p c ≡ p (k, w) = ap p (λ i. (sym (same_keys k c.0 here) i, v i)) in
    rw here (rw same (omega arith)))
    (λ (there : same_key k c.0 ≡ false). let ih = count_without p k w cs (rw there at h) in rw there (omega arith)) (test (same_key k c.0))

pub claims_any : (w i : ℕ) (cs : List (Key × ℕ)) → claims_at w i cs ≡ list_any (λ (c : Key × ℕ). c.1 == w && (c.0).node == i) cs
claims_any w i [] = refl
claims_any w i (c ∷ cs) = ap (λ b. (c.1 == w && (c.0).node == i) || b) (claims_any w i cs)

-- CHANGES

module _ (old new : Claims) (claims : List (Key × ℕ)) (key : Key) (worker : ℕ) (before : AreClaims old claims) where
  -- one up, or one down, at the seats of the claim
  seat_up : (a b c d : ℕ) (x y : ℕ) → y ≡ (if a == c && b == d then x + 1 else x) → y ≡ x + cond (a == c && b == d) 1 0
  seat_up a b c d x y h = ⊎_elim (λ (e : (a == c && b == d) ≡ true). rw e (rw e at h)) (λ (e : (a == c && b == d) ≡ false). let same : y ≡ x = rw e at h in rw e (omega arith)) (test (a == c && b == d))

  seat_down : (a b c d : ℕ) (x y : ℕ) → y ≡ (if a == c && b == d then x - 1 else x) → y ≡ x - cond (a == c && b == d) 1 0
  seat_down a b c d x y h = ⊎_elim (λ (e : (a == c && b == d) ≡ true). rw e (rw e at h)) (λ (e : (a == c && b == d) ≡ false). let same : y ≡ x = rw e at h in rw e (omega arith)) (test (a == c && b == d))

  alone_is : (a c : ℕ) → (a == c && 0 == 0) ≡ (a == c)
  alone_is a c = go (a == c)
    where
      go : (b : Bool) → (b && 0 == 0) ≡ b
      go true = refl
      go false = refl

  pub opened : at_key key claims ≡ None
      → ((q : Key) → get same_key new.by_key q ≡ cond (same_key key q) (Some worker) (get same_key old.by_key q))
      → hash_map_len new.by_key ≡ hash_map_len old.by_key + 1
      → ((q : Seat) → count_at new.at_node q ≡ (if same_seat (record { worker = worker; node = key.node }) q then count_at old.at_node q + 1 else count_at old.at_node q))
      → ((q : Seat) → count_at new.of_worker q ≡ (if same_seat (record { worker = worker; node = 0 }) q then count_at old.of_worker q + 1 else count_at old.of_worker q))
      → AreClaims new (claims ++ (key, worker) ∷ [])
  opened none keys len at_node of_worker = record {
    by_key = λ k. keys k ∙ ap (cond (same_key key k) (Some worker)) (before.by_key k) ∙ sym (at_push k key worker claims none);
    at_node = λ w i. seat_up worker key.node w i (count_at old.at_node (record { worker = w; node = i })) _ (at_node (record { worker = w; node = i }))
        ∙ ap (λ n. n + cond (worker == w && key.node == i) 1 0) (before.at_node w i) ∙ sym (count_push (λ (c : Key × ℕ). c.1 == w && (c.0).node == i) claims (key, worker));
    of_worker = λ w. seat_up worker 0 w 0 (count_at old.of_worker (record { worker = w; node = 0 })) _ (of_worker (record { worker = w; node = 0 }))
        ∙ ap (λ b. count_at old.of_worker (record { worker = w; node = 0 }) + cond b 1 0) (alone_is worker w)
        ∙ ap (λ n. n + cond (worker == w) 1 0) (before.of_worker w) ∙ sym (count_push (λ (c : Key × ℕ). c.1 == w) claims (key, worker));
    number = let n = before.number in let l = length-append claims ((key, worker) ∷ []) in omega arith;
    differ = differ_push key worker claims none before.differ;
  }

  at_closed : (k : Key) → cond (same_key key k) None (at_key k claims) ≡ at_key k (without_key key claims)
  at_closed k = ⊎_elim
      (λ (e : same_key key k ≡ true). rw e (subst (λ z. None ≡ at_key z (without_key key claims)) (same_keys key k e) (sym (gone key claims before.differ))))
      (λ (e : same_key key k ≡ false). rw e (sym (at_without k key claims (swapped key k e)))) (test (same_key key k))

  pub closed : at_key key claims ≡ Some worker
      → ((q : Key) → get same_key new.by_key q ≡ cond (same_key key q) None (get same_key old.by_key q))
      → hash_map_len new.by_key + 1 ≡ hash_map_len old.by_key
      → ((q : Seat) → count_at new.at_node q ≡ (if same_seat (record { worker = worker; node = key.node }) q then count_at old.at_node q - 1 else count_at old.at_node q))
      → ((q : Seat) → count_at new.of_worker q ≡ (if same_seat (record { worker = worker; node = 0 }) q then count_at old.of_worker q - 1 else count_at old.of_worker q))
      → AreClaims new (without_key key claims)
  closed there keys len at_node of_worker = record {
    by_key = λ k. keys k ∙ ap (cond (same_key key k) None) (before.by_key k) ∙ at_closed k;
    at_node = λ w i.
        let all = count_without (λ (c : Key × ℕ). c.1 == w && (c.0).node == i) key worker claims there in
        let one = seat_down worker key.node w i (count_at old.at_node (record { worker = w; node = i })) _ (at_node (record { worker = w; node = i })) in
        let had = before.at_node w i in
        one ∙ ap (λ n. n - cond (worker == w && key.node == i) 1 0) (had ∙ sym all) ∙ less (number_at w i (without_key key claims)) (cond (worker == w && key.node == i) 1 0);
    of_worker = λ w.
        let all = count_without (λ (c : Key × ℕ). c.1 == w) key worker claims there in
        let one = seat_down worker 0 w 0 (count_at old.of_worker (record { worker = w; node = 0 })) _ (of_worker (record { worker = w; node = 0 })) in
        let had = before.of_worker w in
        one ∙ ap (λ b. count_at old.of_worker (record { worker = w; node = 0 }) - cond b 1 0) (alone_is worker w) ∙ ap (λ n. n - cond (worker == w) 1 0) (had ∙ sym all)
        ∙ less (number_of w (without_key key claims)) (cond (worker == w) 1 0);
    number = let n = before.number in let l = length_without key claims (present (at_key key claims) worker there) in omega arith;
    differ = differ_without key claims before.differ;
  }
    where
      less : (a b : ℕ) → (a + b) - b ≡ a
      less a b = omega arith

-- TESTS

module _ (c : Claims) (claims : List (Key × ℕ)) (are : AreClaims c claims) where
  pub node_test : (w i : ℕ) → nat_lt 0 (count_at c.at_node (record { worker = w; node = i })) ≡ claims_at w i claims
  node_test w i = ap (nat_lt 0) (are.at_node w i) ∙ sym (any_count (λ (x : Key × ℕ). x.1 == w && (x.0).node == i) claims) ∙ sym (claims_any w i claims)

  pub worker_test : (w : ℕ) → nat_lt 0 (count_at c.of_worker (record { worker = w; node = 0 })) ≡ list_any (λ (x : Key × ℕ). x.1 == w) claims
  worker_test w = ap (nat_lt 0) (are.of_worker w) ∙ sym (any_count (λ (x : Key × ℕ). x.1 == w) claims)
