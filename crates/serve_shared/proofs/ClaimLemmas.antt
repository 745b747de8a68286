-- The claims of a worker in a core, and what giving them up leaves.
use Rattle.std.proofs.Common.{◌≡◌, ℕ, suc, ◌<◌, true, false, ◌||◌, List, [], ◌∷◌, ◌++◌, length, Some, None, sym, refl, ap, ◌∙◌, subst, ⊎_elim, arith, length-append, append_assoc, append-nil}
use Rattle.std.specs.List.{IsDistinct}
use Rattle.std.specs.Map.{keys_of}
use Rattle.fv_plane.specs.declared.key.Key.{Key}
use Rattle.frame_cache.specs.Cached.{same_key, at_key, without_key, Differ}
use Rattle.frame_cache.proofs.CallerLemmas.{test, key_itself, differ_without, gone}
use Rattle.serve_machine.specs.declared.event.Event.TheVariants.{Abandon}
use Rattle.serve_machine.specs.Events.{has, without}
use Rattle.serve_machine.specs.Work.{abandons}
use Rattle.serve_machine.specs.Machine.{is_by}
use Rattle.serve_machine.specs.Holdings.{claims_of}
use Rattle.serve_machine.specs.Law.{keys_machine}
use Rattle.serve_machine.proofs.KeptLemmas.{keys_law}
use Rattle.serve_machine.proofs.LawLemmas.{no_claims}
use Rattle.serve_machine.proofs.TruthLemmas.{by_there, some_same}
use Rattle.serve_machine.proofs.WorkerLists.{claims_tell, closed_own}
use Rattle.serve_core.specs.Calls.{after_abandon}
use Rattle.serve_core.specs.CoreValue.{CoreValue}
use Rattle.serve_core.specs.Holds.{last_after, newest}
use Rattle.serve_core.specs.Runs.{IsRun, keys_alone, opening_of, state_of}
use Rattle.serve_shared.specs.Steps.{given_up, closed}

-- The newest key is the last.

last_at : (j : Key) (ks : List Key) (k : Key) → last_after (Some j) ks ≡ Some k → (js : List Key) × (j ∷ ks ≡ js ++ k ∷ [])
last_at j [] k h = ([], ap (λ z. z ∷ []) (some_same h))
last_at j (i ∷ ks) k h = let e = last_at i ks k h in (j ∷ e.0, ap (λ l. j ∷ l) e.1)

pub newest_last : (ks : List Key) (k : Key) → newest ks ≡ Some k → (js : List Key) × (ks ≡ js ++ k ∷ [])
newest_last [] k h = absurd (cc)
newest_last (j ∷ ks) k h = last_at j ks k h

last_before : (j : Key) (ks : List Key) → last_after (Some j) ks ≡ None → ⊥
last_before j [] h = absurd (cc)
last_before j (i ∷ ks) h = last_before i ks h

pub no_newest : (ks : List Key) → newest ks ≡ None → ks ≡ []
no_newest [] h = refl
no_newest (j ∷ ks) h = absurd (last_before j ks h)

-- Where keys differ, the last one stands nowhere else.

has_last : (k : Key) (js : List Key) → has k (js ++ k ∷ []) ≡ true
has_last k [] = rw (key_itself k) refl
has_last k (j ∷ js) = let ih = has_last k js in elim (same_key k j) as (λ b. (b || has k (js ++ k ∷ [])) ≡ true) [ true ↦ refl | false ↦ ih ]

without_last : (k : Key) (js : List Key) → has k (without k (js ++ k ∷ [])) ≡ false → without k (js ++ k ∷ []) ≡ js
without_last k [] h = rw (key_itself k) refl
without_last k (j ∷ js) h = ⊎_elim
    (λ (e : same_key k j ≡ true). let h' : has k (js ++ k ∷ []) ≡ false = rw e at h in let bad : true ≡ false = sym (has_last k js) ∙ h' in absurd (cc))
    (λ (e : same_key k j ≡ false). let h' : (same_key k j || has k (without k (js ++ k ∷ []))) ≡ false = rw e at h in
    let ih = without_last k js (rw e at h') in rw e (ap (λ l. j ∷ l) ih)) (test (same_key k j))

module _ (w : ℕ) (cs : List (Key × ℕ)) (d : Differ cs) where
  -- a key among the worker's claims is claimed by it
  pub claimed_by : (k : Key) → has k (claims_of w cs) ≡ true → at_key k cs ≡ Some w
  claimed_by k h = by_there w (at_key k cs) (sym (claims_tell w k cs d) ∙ h)

  pub newest_claimed : (k : Key) → newest (claims_of w cs) ≡ Some k → at_key k cs ≡ Some w
  newest_claimed k h = let last = newest_last (claims_of w cs) k h in claimed_by k (ap (has k) last.1 ∙ has_last k last.0)

  pub without_newest : (k : Key) (js : List Key) → claims_of w cs ≡ js ++ k ∷ [] → claims_of w (without_key k cs) ≡ js
  without_newest k js last =
      let mine : at_key k cs ≡ Some w = claimed_by k (ap (has k) last ∙ has_last k js) in
      let less : claims_of w (without_key k cs) ≡ without k (js ++ k ∷ []) = closed_own w k cs mine ∙ ap (without k) last in
      let none : has k (without k (js ++ k ∷ [])) ≡ false = ap (has k) (sym less) ∙ (claims_tell w k (without_key k cs) (differ_without k cs d) ∙ ap (is_by w) (gone k cs d)) in
      less ∙ without_last k js none

-- in a window no key is claimed twice
pub claims_differ : {I : Type 0} (c : CoreValue I) → IsRun c → Differ c.claims
claims_differ c r =
    let alone = length_alone c.fixed.opening in
    let few = r.few in
    let start = no_claims (keys_machine c.fixed) (keys_alone c.fixed.opening) (subst (IsDistinct same_key) (sym (keys_back c.fixed.opening)) r.differ) (omega arith) in
    (keys_law (keys_machine c.fixed) c.journal (opening_of c) (state_of c r.got r.entered) start r.runs).claimed_once
  where
    keys_back : (ks : List Key) → keys_of (keys_alone ks) ≡ ks
    keys_back [] = refl
    keys_back (k ∷ ks) = ap (λ l. k ∷ l) (keys_back ks)

    length_alone : (ks : List Key) → length (keys_alone ks) ≡ length ks
    length_alone [] = refl
    length_alone (k ∷ ks) = ap suc (length_alone ks)

-- one claim fewer
pub fewer_claims : (w : ℕ) (cs : List (Key × ℕ)) (k : Key) → Differ cs → newest (claims_of w cs) ≡ Some k → length (claims_of w (without_key k cs)) < length (claims_of w cs)
fewer_claims w cs k differ at =
    let last = newest_last (claims_of w cs) k at in
    let less = ap length (without_newest w cs differ k last.0 last.1) in
    let more = ap length last.1 in
    let l = length-append last.0 (k ∷ []) in
    omega arith

-- Claims given up, the newest first.
module _ {I : Type 0} (w : ℕ) where
  given_last : (js : List Key) (k : Key) (c : CoreValue I) → given_up w (js ++ k ∷ []) c ≡ given_up w js (after_abandon c w k)
  given_last [] k c = refl
  given_last (j ∷ js) k c = ap (λ (z : CoreValue I). after_abandon z w j) (given_last js k c)

  pub closed_one : (c d : CoreValue I) (k : Key) → Differ c.claims → newest (claims_of w c.claims) ≡ Some k → d ≡ after_abandon c w k → closed w d ≡ closed w c
  closed_one c d k differ at is =
      let last = newest_last (claims_of w c.claims) k at in
      ap (closed w) is ∙ (ap (λ ks. given_up w ks (after_abandon c w k)) (without_newest w c.claims differ k last.0 last.1)
      ∙ (sym (given_last last.0 k c) ∙ ap (λ ks. given_up w ks c) (sym last.1)))

  pub closed_none : (c : CoreValue I) → newest (claims_of w c.claims) ≡ None → closed w c ≡ c
  closed_none c h = ap (λ ks. given_up w ks c) (no_newest (claims_of w c.claims) h)

  -- nothing but the claims and the journal changes

  pub given_fixed : (ks : List Key) (c : CoreValue I) → (given_up w ks c).fixed ≡ c.fixed
  given_fixed [] c = refl
  given_fixed (k ∷ ks) c = given_fixed ks c

  pub given_table : (ks : List Key) (c : CoreValue I) → (given_up w ks c).table ≡ c.table
  given_table [] c = refl
  given_table (k ∷ ks) c = given_table ks c

  pub given_failed : (ks : List Key) (c : CoreValue I) → (given_up w ks c).failed ≡ c.failed
  given_failed [] c = refl
  given_failed (k ∷ ks) c = given_failed ks c

  pub given_journal : (ks : List Key) (c : CoreValue I) → (given_up w ks c).journal ≡ c.journal ++ abandons w ks
  given_journal [] c = sym (append-nil c.journal)
  given_journal (k ∷ ks) c = ap (λ l. l ++ Abandon w k ∷ []) (given_journal ks c) ∙ append_assoc c.journal (abandons w ks) (Abandon w k ∷ [])
