-- What `insert` of a map makes of its entries.
use Rattle.std.proofs.Common.{◌≡◌, Bool, true, false, List, [], ◌∷◌, ◌++◌, Some, None, IsSome, refl, ap, ⊎_elim}
use Rattle.std.specs.Map.{lookup, set_value}
use Rattle.indexmap.specs.IndexMap.{insert_entry}
use Rattle.inst_table.proofs.CallerLemmas.{test}

module _ {K X : Type 0} (eq : K → K → Bool) (k : K) (v : X) where
  -- a new key goes last
  pub insert_entry-new : (es : List (K × X)) → lookup (eq k) es ≡ None → insert_entry eq es k v ≡ es ++ (k, v) ∷ []
  insert_entry-new [] none = refl
  insert_entry-new (e ∷ es) none = ⊎_elim
      (λ (h : eq k e.0 ≡ true). let bad : Some e.1 ≡ None = rw h at none in absurd (cc))
      (λ (h : eq k e.0 ≡ false). rw h (ap (λ l. e ∷ l) (insert_entry-new es (rw h at none)))) (test (eq k e.0))

  -- a key that is there keeps its place
  pub insert_entry-there : (es : List (K × X)) → IsSome (lookup (eq k) es) → insert_entry eq es k v ≡ set_value (eq k) es v
  insert_entry-there [] there = absurd (cc)
  insert_entry-there (e ∷ es) there = ⊎_elim
      (λ (h : eq k e.0 ≡ true). rw h refl)
      (λ (h : eq k e.0 ≡ false). rw h (ap (λ l. e ∷ l) (insert_entry-there es (rw h at there)))) (test (eq k e.0))
