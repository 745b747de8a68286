-- The words of `lru` in the words for lists of pairs by key.
use Rattle.std.proofs.Common.{◌≡◌, ℕ, zero, suc, ◌-◌, true, false, List, [], ◌∷◌, take, slice_get, option_map, Option, Some, None, sym, refl, ap, ◌∙◌, ⊎_elim}
use Rattle.std.specs.Option.{option_map_or}
use Rattle.std.specs.Map.{keys_of, lookup_entry, remove_entry}
use Rattle.lru.specs.LruCache.{LruCache, promoted, put_entries, displaced}
use Rattle.fv_plane.specs.declared.key.Key.{Key}
use Rattle.frame_cache.specs.Cached.{same_key, at_key, without_key, fronted, put_first, dropped_key}
use Rattle.frame_cache.proofs.CallerLemmas.{test, same_keys}

module _ {A : Type 0} where
  lookup_entry_is : (k : Key) (ps : List (Key × A)) → lookup_entry (same_key k) ps ≡ option_map (λ x. (k, x)) (at_key k ps)
  lookup_entry_is k [] = refl
  lookup_entry_is k (p ∷ ps) = ⊎_elim
      (λ (e : same_key k p.0 ≡ true). let same : p.0 ≡ k = sym (same_keys k p.0 e) in rw e (ap (λ j. Some (j, p.1)) same))
      (λ (e : same_key k p.0 ≡ false). rw e (lookup_entry_is k ps)) (test (same_key k p.0))

  pub promoted_is : (k : Key) (ps : List (Key × A)) → promoted (same_key k) ps ≡ fronted k ps
  promoted_is k ps = ap (λ o. option_map_or (λ e. e ∷ remove_entry (same_key k) ps) o ps) (lookup_entry_is k ps) ∙ go (at_key k ps)
    where
      go : (o : Option A) → option_map_or (λ e. e ∷ remove_entry (same_key k) ps) (option_map (λ x. (k, x)) o) ps ≡ option_map_or (λ x. (k, x) ∷ without_key k ps) o ps
      go None = refl
      go (Some x) = refl

  pub put_is : (c : LruCache Key A) (k : Key) (x : A) → at_key k c.entries ≡ None → put_entries same_key c k x ≡ put_first c.cap k x c.entries
  put_is c k x none = ap (λ o. option_map_or (λ e. (e.0, x) ∷ remove_entry (same_key k) c.entries) o ((k, x) ∷ take (c.cap - 1) c.entries)) (lookup_entry_is k c.entries ∙ ap (option_map (λ y. (k, y))) none)

  slice_get-keys_of : (ps : List (Key × A)) (i : ℕ) → slice_get (keys_of ps) i ≡ option_map (λ (p : Key × A). p.0) (slice_get ps i)
  slice_get-keys_of [] i = refl
  slice_get-keys_of (p ∷ ps) zero = refl
  slice_get-keys_of (p ∷ ps) (suc i) = slice_get-keys_of ps i

  pub displaced_is : (c : LruCache Key A) (k : Key) (x : A) (o : Option (Key × A)) → at_key k c.entries ≡ None → o ≡ displaced same_key c k x → option_map (λ (p : Key × A). p.0) o ≡ dropped_key c.cap c.entries
  displaced_is c k x o none e = ap (option_map (λ (p : Key × A). p.0)) (e ∙ ap (λ o. option_map_or (λ old. Some (k, old)) o (slice_get c.entries (c.cap - 1))) none) ∙ sym (slice_get-keys_of c.entries (c.cap - 1))
