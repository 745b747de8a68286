-- Lists of pairs: what setting the value of a key does to a look-up.
use Rattle.std.proofs.Common.{◌≡◌, ◌⊎◌, ℕ, zero, suc, ◌+◌, ◌<◌, Bool, true, false, List, [], ◌∷◌, length, Some, sym, ap, ◌∙◌, inl, inr, ⊎_elim, arith}
use Rattle.std.specs.Prelude.{is_some}
use Rattle.std.specs.List.{position_or_len}
use Rattle.std.specs.Map.{lookup}
use Rattle.frame_cache.proofs.CallerLemmas.{test}
use Rattle.inst_table.specs.declared.place.Place.{Place}
use Rattle.inst_table.specs.declared.place.Slot.{Slot}
use Rattle.inst_table.specs.declared.place.Slot.TheVariants.{Free, Leased}
use Rattle.inst_table.specs.Places.{same_place, slot_at, with_slot}
use Rattle.inst_table.proofs.CallerLemmas.{same_places}

module _ {K X : Type 0} (t : K → Bool) where
  abbrev pub at_first : List (K × X) → ℕ
  at_first xs = position_or_len (λ e. t e.0) xs

  pub there : (xs : List (K × X)) (i : ℕ) → i ≡ at_first xs → is_some (lookup t xs) ≡ true → i < length xs
  there [] i is h = absurd (cc)
  there (x ∷ xs) zero is h = omega arith
  there (x ∷ xs) (suc i) is h = ⊎_elim (λ (e : t x.0 ≡ true). let is' : suc i ≡ 0 = rw e at is in absurd (omega arith))
      (λ (e : t x.0 ≡ false). let is' : suc i ≡ 1 + at_first xs = rw e at is in let ih = there xs i (omega arith) (rw e at h) in omega arith) (test (t x.0))

module _ {I : Type 0} where
  -- what stands at a place afterwards stood there, or was put there
  pub at_set : (p q : Place) (s v : Slot I) (es : List (Place × Slot I)) → slot_at p (with_slot q s es) ≡ Some v → (slot_at p es ≡ Some v) ⊎ ((p ≡ q) × (s ≡ v))
  at_set p q s v [] h = inl h
  at_set p q s v (e ∷ es) h = ⊎_elim
      (λ (f : same_place q e.0 ≡ true). let h' : slot_at p ((e.0, s) ∷ es) ≡ Some v = rw f at h in ⊎_elim
      (λ (g : same_place p e.0 ≡ true). let same : Some s ≡ Some v = rw g at h' in let is : s ≡ v = cc in inr (same_places p e.0 g ∙ sym (same_places q e.0 f), is))
      (λ (g : same_place p e.0 ≡ false). inl (rw g (rw g at h'))) (test (same_place p e.0)))
      (λ (f : same_place q e.0 ≡ false). let h' : slot_at p (e ∷ with_slot q s es) ≡ Some v = rw f at h in ⊎_elim
      (λ (g : same_place p e.0 ≡ true). inl (rw g (rw g at h')))
      (λ (g : same_place p e.0 ≡ false). ⊎_elim
      (λ (was : slot_at p es ≡ Some v). let k : (slot_at p es ≡ Some v) ⊎ ((p ≡ q) × (s ≡ v)) = inl was in rw g k)
      (λ (now : (p ≡ q) × (s ≡ v)). inr now) (at_set p q s v es (rw g at h'))) (test (same_place p e.0))) (test (same_place q e.0))

-- an instance that is there is not out
abbrev is_leased_slot : {I : Type 0} → Slot I → Bool
is_leased_slot (Free x) = false
is_leased_slot (Leased w) = true

pub not_free : {I : Type 0} → {x : I} {w : ℕ} → Leased w ≡ Free x → ⊥
not_free {I} e = let bad : true ≡ false = ap (is_leased_slot {I = I}) e in absurd (cc)

abbrev value_or : {I : Type 0} → I → Slot I → I
value_or d (Free x) = x
value_or d (Leased w) = d

pub free_same : {I : Type 0} → {x y : I} → Free x ≡ Free y → x ≡ y
free_same {I} {x} {y} e = ap (value_or x) e

pub some_same : {X : Type 0} {x y : X} → Some x ≡ Some y → x ≡ y
some_same e = cc
