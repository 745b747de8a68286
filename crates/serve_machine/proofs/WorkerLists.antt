-- What a worker has in the lists of a state, and what each event does to that.
use Rattle.std.proofs.Common.{◌≡◌, ℕ, zero, suc, ◌+◌, ◌<◌, ◌==◌, true, false, ◌&&◌, ◌||◌, if◌then◌else◌, List, [], ◌∷◌, ◌++◌, length, set, slice_get, Option, Some, None, sym, refl, ap, ◌∙◌, subst, ⊎_elim, eq-eqb, ne_eqb, arith}
use Rattle.std.specs.Prelude.{replicate}
use Rattle.std.specs.List.{IsDistinct}
use Rattle.std.specs.Map.{lookup, set_value}
use Rattle.std.proofs.lemmas.Bool.{eqb-true}
use Rattle.fv_plane.specs.declared.key.Key.{Key}
use Rattle.frame_cache.specs.Cached.{same_key, at_key, without_key, Differ}
use Rattle.frame_cache.proofs.CallerLemmas.{test, left_true, right_true, same_keys, nowhere}
use Rattle.inst_table.specs.declared.place.Place.{Place}
use Rattle.inst_table.specs.Places.{same_place}
use Rattle.inst_table.proofs.CallerLemmas.{same_places}
use Rattle.serve_machine.specs.Events.{has, without}
use Rattle.serve_machine.specs.Machine.{is_open, is_by, holds_nothing}
use Rattle.serve_machine.specs.Holdings.{claims_of, leases_of, outputs_of, has_number, without_number}
use Rattle.serve_machine.proofs.TruthLemmas.{by_there, some_same}

-- Claims.

pub claims_own : (w v : ℕ) (k : Key) (cs : List (Key × ℕ)) → (v == w) ≡ true → claims_of w (cs ++ (k, v) ∷ []) ≡ claims_of w cs ++ k ∷ []
claims_own w v k [] h = rw h refl
claims_own w v k (c ∷ cs) h =
    let ih = claims_own w v k cs h in
    elim (c.1 == w) as (λ b. (if b then c.0 ∷ claims_of w (cs ++ (k, v) ∷ []) else claims_of w (cs ++ (k, v) ∷ [])) ≡ (if b then c.0 ∷ claims_of w cs else claims_of w cs) ++ k ∷ [])
    [ true ↦ ap (λ l. c.0 ∷ l) ih | false ↦ ih ]

pub claims_other : (w v : ℕ) (k : Key) (cs : List (Key × ℕ)) → (v == w) ≡ false → claims_of w (cs ++ (k, v) ∷ []) ≡ claims_of w cs
claims_other w v k [] h = rw h refl
claims_other w v k (c ∷ cs) h =
    let ih = claims_other w v k cs h in
    elim (c.1 == w) as (λ b. (if b then c.0 ∷ claims_of w (cs ++ (k, v) ∷ []) else claims_of w (cs ++ (k, v) ∷ [])) ≡ (if b then c.0 ∷ claims_of w cs else claims_of w cs))
    [ true ↦ ap (λ l. c.0 ∷ l) ih | false ↦ ih ]

pub closed_own : (w : ℕ) (k : Key) (cs : List (Key × ℕ)) → at_key k cs ≡ Some w → claims_of w (without_key k cs) ≡ without k (claims_of w cs)
closed_own w k [] h = absurd (cc)
closed_own w k (c ∷ cs) h = ⊎_elim
    (λ (e : same_key k c.0 ≡ true). let is : Some c.1 ≡ Some w = rw e at h in let mine : (c.1 == w) ≡ true = eq-eqb c.1 w (some_same is) in rw e (rw mine (rw e refl)))
    (λ (e : same_key k c.0 ≡ false). let ih = closed_own w k cs (rw e at h) in
    rw e (elim (c.1 == w) as (λ b. (if b then c.0 ∷ claims_of w (without_key k cs) else claims_of w (without_key k cs)) ≡ without k (if b then c.0 ∷ claims_of w cs else claims_of w cs))
    [ true ↦ rw e (ap (λ l. c.0 ∷ l) ih) | false ↦ ih ])) (test (same_key k c.0))

pub closed_other : (w v : ℕ) (k : Key) (cs : List (Key × ℕ)) → at_key k cs ≡ Some v → (v == w) ≡ false → claims_of w (without_key k cs) ≡ claims_of w cs
closed_other w v k [] h o = refl
closed_other w v k (c ∷ cs) h o = ⊎_elim
    (λ (e : same_key k c.0 ≡ true). let is : Some c.1 ≡ Some v = rw e at h in let other : (c.1 == w) ≡ false = ap (λ u. u == w) (some_same is) ∙ o in rw e (rw other refl))
    (λ (e : same_key k c.0 ≡ false). let ih = closed_other w v k cs (rw e at h) o in
    rw e (elim (c.1 == w) as (λ b. (if b then c.0 ∷ claims_of w (without_key k cs) else claims_of w (without_key k cs)) ≡ (if b then c.0 ∷ claims_of w cs else claims_of w cs))
    [ true ↦ ap (λ l. c.0 ∷ l) ih | false ↦ ih ])) (test (same_key k c.0))

not_there : (w : ℕ) (k : Key) (cs : List (Key × ℕ)) → at_key k cs ≡ None → has k (claims_of w cs) ≡ false
not_there w k [] h = refl
not_there w k (c ∷ cs) h = ⊎_elim
    (λ (e : same_key k c.0 ≡ true). let bad : Some c.1 ≡ None = rw e at h in absurd (cc))
    (λ (e : same_key k c.0 ≡ false). let ih = not_there w k cs (rw e at h) in
    elim (c.1 == w) as (λ b. has k (if b then c.0 ∷ claims_of w cs else claims_of w cs) ≡ false) [ true ↦ rw e ih | false ↦ ih ]) (test (same_key k c.0))

is_claimed : (w : ℕ) (k : Key) (cs : List (Key × ℕ)) → Differ cs → has k (claims_of w cs) ≡ true → at_key k cs ≡ Some w
unfolding IsDistinct
is_claimed w k [] d h = absurd (cc)
is_claimed w k (c ∷ cs) d h = ⊎_elim
    (λ (e : same_key k c.0 ≡ true). let none = not_there w k cs (subst (λ j. at_key j cs ≡ None) (sym (same_keys k c.0 e)) (nowhere c.0 cs d.0)) in
    ⊎_elim (λ (g : (c.1 == w) ≡ true). rw e (ap Some (eqb-true c.1 w g)))
    (λ (g : (c.1 == w) ≡ false). let h' : has k (claims_of w cs) ≡ true = rw g at h in let bad : false ≡ true = sym none ∙ h' in absurd (cc)) (test (c.1 == w)))
    (λ (e : same_key k c.0 ≡ false). rw e (is_claimed w k cs d.1 (⊎_elim
    (λ (g : (c.1 == w) ≡ true). let h' : (same_key k c.0 || has k (claims_of w cs)) ≡ true = rw g at h in rw e at h')
    (λ (g : (c.1 == w) ≡ false). rw g at h) (test (c.1 == w))))) (test (same_key k c.0))

there : (w : ℕ) (k : Key) (cs : List (Key × ℕ)) → at_key k cs ≡ Some w → has k (claims_of w cs) ≡ true
there w k [] h = absurd (cc)
there w k (c ∷ cs) h = ⊎_elim
    (λ (e : same_key k c.0 ≡ true). let is : Some c.1 ≡ Some w = rw e at h in rw (eq-eqb c.1 w (some_same is)) (rw e refl))
    (λ (e : same_key k c.0 ≡ false). let ih = there w k cs (rw e at h) in
    elim (c.1 == w) as (λ b. has k (if b then c.0 ∷ claims_of w cs else claims_of w cs) ≡ true) [ true ↦ rw e ih | false ↦ ih ]) (test (same_key k c.0))

-- a claim is the worker's own exactly where its list has the key
pub claims_tell : (w : ℕ) (k : Key) (cs : List (Key × ℕ)) → Differ cs → has k (claims_of w cs) ≡ is_by w (at_key k cs)
claims_tell w k cs d = ⊎_elim
    (λ (e : has k (claims_of w cs) ≡ true). e ∙ sym (ap (is_by w) (is_claimed w k cs d e) ∙ eq-eqb w w refl))
    (λ (e : has k (claims_of w cs) ≡ false). ⊎_elim
    (λ (g : is_by w (at_key k cs) ≡ true). let bad : true ≡ false = sym (there w k cs (by_there w (at_key k cs) g)) ∙ e in absurd (cc))
    (λ (g : is_by w (at_key k cs) ≡ false). e ∙ sym g) (test (is_by w (at_key k cs)))) (test (has k (claims_of w cs)))

-- Leases.

pub lease_taken : (w : ℕ) (p : Place) (es : List (Place × Option ℕ)) → lookup (same_place p) es ≡ Some None → leases_of w es ≡ [] → leases_of w (set_value (same_place p) es (Some w)) ≡ p ∷ []
lease_taken w p [] h g = absurd (cc)
lease_taken w p ((q, None) ∷ es) h g = ⊎_elim
    (λ (e : same_place p q ≡ true). let place = sym (same_places p q e) in rw e (rw (eq-eqb w w refl) (λ i. place i ∷ g i)))
    (λ (e : same_place p q ≡ false). rw e (lease_taken w p es (rw e at h) g)) (test (same_place p q))
lease_taken w p ((q, Some v) ∷ es) h g = ⊎_elim
    (λ (e : same_place p q ≡ true). let bad : Some (Some v) ≡ Some None = rw e at h in let worse : Some v ≡ None = some_same bad in absurd (cc))
    (λ (e : same_place p q ≡ false). ⊎_elim
    (λ (f : (v == w) ≡ true). let bad : q ∷ leases_of w es ≡ [] = rw f at g in absurd (cc))
    (λ (f : (v == w) ≡ false). let g' : leases_of w es ≡ [] = rw f at g in rw e (rw f (lease_taken w p es (rw e at h) g'))) (test (v == w))) (test (same_place p q))

pub lease_back : (w : ℕ) (p : Place) (es : List (Place × Option ℕ)) → lookup (same_place p) es ≡ Some (Some w) → length (leases_of w (set_value (same_place p) es None)) + 1 ≡ length (leases_of w es)
lease_back w p [] h = absurd (cc)
lease_back w p ((q, None) ∷ es) h = ⊎_elim
    (λ (e : same_place p q ≡ true). let bad : Some None ≡ Some (Some w) = rw e at h in let worse : None ≡ Some w = some_same bad in absurd (cc))
    (λ (e : same_place p q ≡ false). rw e (lease_back w p es (rw e at h))) (test (same_place p q))
lease_back w p ((q, Some v) ∷ es) h = ⊎_elim
    (λ (e : same_place p q ≡ true). let is : Some (Some v) ≡ Some (Some w) = rw e at h in rw e (rw (eq-eqb v w (some_same (some_same is))) (omega arith)))
    (λ (e : same_place p q ≡ false). let ih = lease_back w p es (rw e at h) in rw e (elim (v == w) as
    (λ b. length (if b then q ∷ leases_of w (set_value (same_place p) es None) else leases_of w (set_value (same_place p) es None)) + 1 ≡ length (if b then q ∷ leases_of w es else leases_of w es))
    [ true ↦ omega (arith, ih) | false ↦ ih ])) (test (same_place p q))

pub lease_other : (w : ℕ) (p : Place) (o x : Option ℕ) (es : List (Place × Option ℕ)) → lookup (same_place p) es ≡ Some o → is_by w o ≡ false → is_by w x ≡ false
    → leases_of w (set_value (same_place p) es x) ≡ leases_of w es
lease_other w p o x [] h a b = refl
lease_other w p o x (e ∷ es) h a b = ⊎_elim
    (λ (f : same_place p e.0 ≡ true). let is : Some e.1 ≡ Some o = rw f at h in let was : is_by w e.1 ≡ false = ap (is_by w) (some_same is) ∙ a in rw f (rw b (rw was refl)))
    (λ (f : same_place p e.0 ≡ false). let ih = lease_other w p o x es (rw f at h) a b in
    rw f (elim (is_by w e.1) as (λ b. (if b then e.0 ∷ leases_of w (set_value (same_place p) es x) else leases_of w (set_value (same_place p) es x)) ≡ (if b then e.0 ∷ leases_of w es else leases_of w es))
    [ true ↦ ap (λ l. e.0 ∷ l) ih | false ↦ ih ])) (test (same_place p e.0))

pub no_lease : (w : ℕ) (es : List (Place × Option ℕ)) → leases_of w es ≡ [] → holds_nothing w es ≡ true
no_lease w [] h = refl
no_lease w (e ∷ es) h = ⊎_elim
    (λ (g : is_by w e.1 ≡ true). let bad : e.0 ∷ leases_of w es ≡ [] = rw g at h in absurd (cc))
    (λ (g : is_by w e.1 ≡ false). rw g (no_lease w es (rw g at h))) (test (is_by w e.1))

pub lease_none : (w : ℕ) (es : List (Place × Option ℕ)) → holds_nothing w es ≡ true → leases_of w es ≡ []
lease_none w [] h = refl
lease_none w (e ∷ es) h = ⊎_elim
    (λ (g : is_by w e.1 ≡ true). let bad : false ≡ true = rw g at h in absurd (cc))
    (λ (g : is_by w e.1 ≡ false). rw g (lease_none w es (rw g at h))) (test (is_by w e.1))

pub few_none : {A : Type 0} → (xs : List A) → length xs < 1 → xs ≡ []
few_none [] h = refl
few_none (x ∷ xs) h = absurd (omega arith)

-- Failures.

pub set_here : {A : Type 0} → (xs : List A) (i : ℕ) (x y : A) → slice_get xs i ≡ Some y → slice_get (set xs i x) i ≡ Some x
set_here [] i x y h = absurd (cc)
set_here (z ∷ zs) zero x y h = refl
set_here (z ∷ zs) (suc i) x y h = set_here zs i x y h

pub set_there : {A : Type 0} → (xs : List A) (i j : ℕ) (x : A) → (i ≡ j → ⊥) → slice_get (set xs i x) j ≡ slice_get xs j
set_there [] i j x ne = refl
set_there (z ∷ zs) zero zero x ne = absurd (ne refl)
set_there (z ∷ zs) zero (suc j) x ne = refl
set_there (z ∷ zs) (suc i) zero x ne = refl
set_there (z ∷ zs) (suc i) (suc j) x ne = set_there zs i j x (λ e. ne (ap (λ n. suc n) e))

pub are_other : (a b : ℕ) → (a == b) ≡ false → a ≡ b → ⊥
are_other a b ne e = let bad : true ≡ false = sym (eq-eqb a b e) ∙ ne in absurd (cc)

pub false_yet : (n j : ℕ) → j < n → slice_get (replicate n false) j ≡ Some false
false_yet zero j h = absurd (omega arith)
false_yet (suc n) zero h = refl
false_yet (suc n) (suc j) h = false_yet n j (omega arith)

-- Outputs.

module _ {F : Type 0} where
  pub output_own : (w v n i : ℕ) (taken : List ℕ) (frames : List (Option F)) → (v == w) ≡ true → i ≡ length taken → slice_get frames i ≡ Some None
      → outputs_of w n (taken ++ v ∷ []) frames ≡ outputs_of w n taken frames ++ (n + i) ∷ []
  output_own w v n i taken [] h l at = absurd (cc)
  output_own w v n zero [] (None ∷ frames) h l at = let e : n ≡ n + 0 = omega arith in rw h (ap (λ k. k ∷ []) e)
  output_own w v n zero [] (Some x ∷ frames) h l at = let bad : Some x ≡ None = some_same at in absurd (cc)
  output_own w v n (suc i) [] (frame ∷ frames) h l at = absurd (omega arith)
  output_own w v n zero (u ∷ us) (frame ∷ frames) h l at = absurd (omega arith)
  output_own w v n (suc i) (u ∷ us) (frame ∷ frames) h l at =
      let e : n + 1 + i ≡ n + suc i = omega arith in
      let ih = output_own w v (n + 1) i us frames h (omega arith) at ∙ ap (λ k. outputs_of w (n + 1) us frames ++ k ∷ []) e in
      elim (u == w && is_open frame) as (λ b. (if b then n ∷ outputs_of w (n + 1) (us ++ v ∷ []) frames else outputs_of w (n + 1) (us ++ v ∷ []) frames)
      ≡ (if b then n ∷ outputs_of w (n + 1) us frames else outputs_of w (n + 1) us frames) ++ (n + suc i) ∷ []) [ true ↦ ap (λ l. n ∷ l) ih | false ↦ ih ]

  pub output_other : (w v n : ℕ) (taken : List ℕ) (frames : List (Option F)) → (v == w) ≡ false → outputs_of w n (taken ++ v ∷ []) frames ≡ outputs_of w n taken frames
  output_other w v n [] [] h = refl
  output_other w v n [] (frame ∷ frames) h = rw h refl
  output_other w v n (u ∷ us) [] h = refl
  output_other w v n (u ∷ us) (frame ∷ frames) h =
      let ih = output_other w v (n + 1) us frames h in
      elim (u == w && is_open frame) as (λ b. (if b then n ∷ outputs_of w (n + 1) (us ++ v ∷ []) frames else outputs_of w (n + 1) (us ++ v ∷ []) frames)
      ≡ (if b then n ∷ outputs_of w (n + 1) us frames else outputs_of w (n + 1) us frames)) [ true ↦ ap (λ l. n ∷ l) ih | false ↦ ih ]

  pub delivered_own : (w n j : ℕ) (x : F) (taken : List ℕ) (frames : List (Option F)) → slice_get taken j ≡ Some w → slice_get frames j ≡ Some None
      → outputs_of w n taken (set frames j (Some x)) ≡ without_number (n + j) (outputs_of w n taken frames)
  delivered_own w n j x [] frames at none = absurd (cc)
  delivered_own w n j x (v ∷ vs) [] at none = absurd (cc)
  delivered_own w n zero x (v ∷ vs) (None ∷ frames) at none =
      let mine : (v == w) ≡ true = eq-eqb v w (some_same at) in
      let e : (n + 0 == n) ≡ true = eq-eqb (n + 0) n (omega arith) in
      rw mine (rw e refl)
  delivered_own w n zero x (v ∷ vs) (Some y ∷ frames) at none = let bad : Some y ≡ None = some_same none in absurd (cc)
  delivered_own w n (suc j) x (v ∷ vs) (frame ∷ frames) at none =
      let e : n + 1 + j ≡ n + suc j = omega arith in
      let ih = delivered_own w (n + 1) j x vs frames at none ∙ ap (λ k. without_number k (outputs_of w (n + 1) vs frames)) e in
      let other : (n + suc j == n) ≡ false = ne_eqb (n + suc j) n (omega arith) in
      elim (v == w && is_open frame) as (λ b. (if b then n ∷ outputs_of w (n + 1) vs (set frames j (Some x)) else outputs_of w (n + 1) vs (set frames j (Some x)))
      ≡ without_number (n + suc j) (if b then n ∷ outputs_of w (n + 1) vs frames else outputs_of w (n + 1) vs frames)) [ true ↦ rw other (ap (λ l. n ∷ l) ih) | false ↦ ih ]

  pub delivered_other : (w v n j : ℕ) (o : Option F) (taken : List ℕ) (frames : List (Option F)) → slice_get taken j ≡ Some v → (v == w) ≡ false
      → outputs_of w n taken (set frames j o) ≡ outputs_of w n taken frames
  delivered_other w v n j o [] frames at h = absurd (cc)
  delivered_other w v n j o (u ∷ us) [] at h = refl
  delivered_other w v n zero o (u ∷ us) (frame ∷ frames) at h =
      let other : (u == w) ≡ false = ap (λ z. z == w) (some_same at) ∙ h in rw other refl
  delivered_other w v n (suc j) o (u ∷ us) (frame ∷ frames) at h =
      let ih = delivered_other w v (n + 1) j o us frames at h in
      elim (u == w && is_open frame) as (λ b. (if b then n ∷ outputs_of w (n + 1) us (set frames j o) else outputs_of w (n + 1) us (set frames j o))
      ≡ (if b then n ∷ outputs_of w (n + 1) us frames else outputs_of w (n + 1) us frames)) [ true ↦ ap (λ l. n ∷ l) ih | false ↦ ih ]

  -- where an output stands
  pub record Stood (w n k : ℕ) (taken : List ℕ) (frames : List (Option F)) : Type 0 where
    pub index : ℕ
    pub number : k ≡ n + index
    pub worker : slice_get taken index ≡ Some w
    pub undelivered : slice_get frames index ≡ Some None

  open_is : (o : Option F) → is_open o ≡ true → o ≡ None
  open_is None h = refl
  open_is (Some x) h = absurd (cc)

  pub output_stood : (w n k : ℕ) (taken : List ℕ) (frames : List (Option F)) → has_number k (outputs_of w n taken frames) ≡ true → Stood w n k taken frames
  output_stood w n k [] frames h = absurd (cc)
  output_stood w n k (v ∷ vs) [] h = absurd (cc)
  output_stood w n k (v ∷ vs) (frame ∷ frames) h = ⊎_elim
      (λ (e : (v == w && is_open frame) ≡ true). let h' : (k == n || has_number k (outputs_of w (n + 1) vs frames)) ≡ true = rw e at h in ⊎_elim
      (λ (g : (k == n) ≡ true). let same = eqb-true k n g in record {
        index = 0;
        number = omega arith;
        worker = ap Some (eqb-true v w (left_true _ _ e));
        undelivered = ap Some (open_is frame (right_true _ _ e));
      })
      (λ (g : (k == n) ≡ false). further (output_stood w (n + 1) k vs frames (rw g at h'))) (test (k == n)))
      (λ (e : (v == w && is_open frame) ≡ false). further (output_stood w (n + 1) k vs frames (rw e at h))) (test (v == w && is_open frame))
    where
      further : Stood w (n + 1) k vs frames → Stood w n k (v ∷ vs) (frame ∷ frames)
      further s = let l = s.number in record { index = suc s.index; number = omega (arith, l); worker = s.worker; undelivered = s.undelivered }

  pub get_set : (frames : List (Option F)) (i j : ℕ) (o : Option F) → i < j → slice_get (set frames i o) j ≡ slice_get frames j
  get_set [] i j o h = refl
  get_set (frame ∷ frames) i zero o h = absurd (omega arith)
  get_set (frame ∷ frames) zero (suc j) o h = refl
  get_set (frame ∷ frames) (suc i) (suc j) o h = get_set frames i j o (omega arith)

  pub none_yet : (n j : ℕ) → j < n → slice_get {X = Option F} (replicate n None) j ≡ Some None
  none_yet zero j h = absurd (omega arith)
  none_yet (suc n) zero h = refl
  none_yet (suc n) (suc j) h = none_yet n j (omega arith)
