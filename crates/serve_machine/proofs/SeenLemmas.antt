-- Pairs whose values are seen through a function.
use Rattle.std.proofs.Common.{◌≡◌, ℕ, zero, suc, ◌==◌, ◌&&◌, Bool, true, false, if◌then◌else◌, List, [], ◌∷◌, take, map, length, Option, Some, None, refl, sym, ap, ◌∙◌}
use Rattle.std.specs.Prelude.{is_some, option_map, replicate}
use Rattle.std.specs.Option.{option_map_or}
use Rattle.std.specs.Map.{keys_of, lookup, set_value, remove_entry}
use Rattle.std.proofs.lemmas.List.{length-map}
use Rattle.fv_plane.specs.declared.key.Key.{Key}
use Rattle.frame_cache.specs.Cached.{same_key, at_key, has_key, without_key, fronted}
use Rattle.serve_machine.specs.Machine.{noted, with_told, got_at, gathered}
use Rattle.serve_machine.specs.Law.{seen}

module _ {K X Y : Type 0} (see : X → Y) where
  pub lookup_seen : (t : K → Bool) (es : List (K × X)) → lookup t (seen see es) ≡ option_map see (lookup t es)
  lookup_seen t [] = refl
  lookup_seen t (e ∷ es) =
      let ih = lookup_seen t es in
      elim (t e.0) as (λ b. (if b then Some (see e.1) else lookup t (seen see es)) ≡ option_map see (if b then Some e.1 else lookup t es))
      [ true ↦ refl | false ↦ ih ]

  pub set_seen : (t : K → Bool) (es : List (K × X)) (x : X) → seen see (set_value t es x) ≡ set_value t (seen see es) (see x)
  set_seen t [] x = refl
  set_seen t (e ∷ es) x =
      let ih = set_seen t es x in
      elim (t e.0) as (λ b. seen see (if b then (e.0, x) ∷ es else e ∷ set_value t es x) ≡ (if b then (e.0, see x) ∷ seen see es else (e.0, see e.1) ∷ set_value t (seen see es) (see x)))
      [ true ↦ refl | false ↦ ap (λ l. (e.0, see e.1) ∷ l) ih ]

  pub remove_seen : (t : K → Bool) (es : List (K × X)) → seen see (remove_entry t es) ≡ remove_entry t (seen see es)
  remove_seen t [] = refl
  remove_seen t (e ∷ es) =
      let ih = remove_seen t es in
      elim (t e.0) as (λ b. seen see (if b then es else e ∷ remove_entry t es) ≡ (if b then seen see es else (e.0, see e.1) ∷ remove_entry t (seen see es)))
      [ true ↦ refl | false ↦ ap (λ l. (e.0, see e.1) ∷ l) ih ]

  pub take_seen : (n : ℕ) (es : List (K × X)) → seen see (take n es) ≡ take n (seen see es)
  take_seen zero es = refl
  take_seen (suc n) [] = refl
  take_seen (suc n) (e ∷ es) = ap (λ l. (e.0, see e.1) ∷ l) (take_seen n es)

  pub keys_seen : (es : List (K × X)) → keys_of (seen see es) ≡ keys_of es
  keys_seen [] = refl
  keys_seen (e ∷ es) = ap (λ l. e.0 ∷ l) (keys_seen es)

  pub noted_seen : (a : K) (o : Option X) (es : List (K × X)) → seen see (noted a o es) ≡ noted a (option_map see o) (seen see es)
  noted_seen a None es = refl
  noted_seen a (Some x) es = refl

  pub length_seen : (es : List (K × X)) → length (seen see es) ≡ length es
  length_seen es = length-map es (λ (e : K × X). (e.0, see e.1))

module _ {X Y : Type 0} (see : X → Y) where
  pub fronted_seen : (k : Key) (es : List (Key × X)) → seen see (fronted k es) ≡ fronted k (seen see es)
  fronted_seen k es = by (at_key k es) ∙ ap (λ o. option_map_or (λ y. (k, y) ∷ without_key k (seen see es)) o (seen see es)) (sym (lookup_seen see (same_key k) es))
    where
      by : (o : Option X) → seen see (option_map_or (λ x. (k, x) ∷ without_key k es) o es) ≡ option_map_or (λ y. (k, y) ∷ without_key k (seen see es)) (option_map see o) (seen see es)
      by None = refl
      by (Some x) = ap (λ l. (k, see x) ∷ l) (remove_seen see (same_key k) es)

  pub none_seen : (n : ℕ) → replicate n None ≡ map (option_map see) (replicate n None)
  none_seen zero = refl
  none_seen (suc n) = ap (λ l. None ∷ l) (none_seen n)

  pub is_some_seen : (o : Option X) → is_some (option_map see o) ≡ is_some o
  is_some_seen None = refl
  is_some_seen (Some x) = refl

  pub has_seen : (k : Key) (es : List (Key × X)) → has_key k (seen see es) ≡ has_key k es
  has_seen k es = ap is_some (lookup_seen see (same_key k) es) ∙ is_some_seen (at_key k es)

  pub got_seen : (w : ℕ) (k : Key) (got : List ((ℕ × Key) × X)) → got_at w k (seen see got) ≡ option_map see (got_at w k got)
  got_seen w k got = lookup_seen see (λ e. e.0 == w && same_key k e.1) got

  pub gathered_seen : (w : ℕ) (ks : List Key) (got : List ((ℕ × Key) × X)) → gathered w ks (seen see got) ≡ option_map (map see) (gathered w ks got)
  gathered_seen w [] got = refl
  gathered_seen w (k ∷ ks) got = (λ i. with_told (got_seen w k got i) (gathered_seen w ks got i)) ∙ both (got_at w k got) (gathered w ks got)
    where
      both : (o : Option X) (os : Option (List X)) → with_told (option_map see o) (option_map (map see) os) ≡ option_map (map see) (with_told o os)
      both None os = refl
      both (Some x) None = refl
      both (Some x) (Some xs) = refl
