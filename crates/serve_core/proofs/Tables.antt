-- The table while no instance is out.
use Rattle.std.specs.Map.{keys_of}
use Rattle.std.proofs.Common.{◌≡◌, ℕ, true, false, if◌then◌else◌, List, [], ◌∷◌, Option, Some, sym, refl, ap, ◌∙◌, arith, ⊎_elim}
use Rattle.serve_core.specs.Sources.{faults_at}
use Rattle.fv_plane.specs.declared.format.Info.{Info}
use Rattle.inst_table.specs.declared.place.Place.{Place}
use Rattle.inst_table.specs.declared.place.Slot.{Slot}
use Rattle.inst_table.specs.declared.place.Slot.TheVariants.{Free, Leased}
use Rattle.inst_table.specs.Places.{same_place, slot_at, with_slot}
use Rattle.inst_table.proofs.CallerLemmas.{test}
use Rattle.serve_core.specs.Holds.{holds_none}
use Rattle.serve_core.specs.Kept.{leases_out}
use Rattle.serve_core.proofs.Places.{not_free, some_same}
use Rattle.serve_core.specs.Tables.{AllFree, held_at, held_in, counts_in}

module _ {I : Type 0} where
  pub never_busy : (p : Place) (w : ℕ) (es : List (Place × Slot I)) → AllFree es → slot_at p es ≡ Some (Leased w) → ⊥
  never_busy p w [] free h = absurd (cc)
  never_busy p w ((q, Free x) ∷ es) free h = ⊎_elim
      (λ (e : same_place p q ≡ true). let h' : Some (Free x) ≡ Some (Leased w) = rw e at h in not_free (sym (some_same h')))
      (λ (e : same_place p q ≡ false). never_busy p w es free (rw e at h)) (test (same_place p q))
  never_busy p w ((q, Leased v) ∷ es) free h = absurd free

  pub none_held : (es : List (Place × Slot I)) → AllFree es → holds_none 0 es ≡ true
  none_held [] h = refl
  none_held ((p, Free x) ∷ es) h = none_held es h
  none_held ((p, Leased w) ∷ es) h = absurd h

  pub none_leased : (es : List (Place × Slot I)) → AllFree es → leases_out es ≡ 0
  none_leased [] h = refl
  none_leased ((p, Free x) ∷ es) h = none_leased es h
  none_leased ((p, Leased w) ∷ es) h = absurd h

  pub all_free : (es : List (Place × Slot I)) → leases_out es ≡ 0 → AllFree es
  all_free [] h = tt
  all_free ((p, Free x) ∷ es) h = all_free es h
  all_free ((p, Leased w) ∷ es) h = absurd (omega arith)

  -- an instance that keeps the same source
  pub held_put : (holds : I → Option Info) (p : Place) (x y : I) (es : List (Place × Slot I)) → slot_at p es ≡ Some (Free x) → holds y ≡ holds x → held_in holds (with_slot p (Free y) es) ≡ held_in holds es
  held_put holds p x y [] at same = refl
  held_put holds p x y ((q, s) ∷ es) at same = ⊎_elim
      (λ (e : same_place p q ≡ true). let at' : Some s ≡ Some (Free x) = rw e at at in let is : s ≡ Free x = some_same at' in rw e (ap (λ o. o ∷ held_in holds es) (ap (λ o. (q, o)) same ∙ sym (ap (λ z. held_at holds (q, z)) is))))
      (λ (e : same_place p q ≡ false). rw e (ap (λ l. held_at holds (q, s) ∷ l) (held_put holds p x y es (rw e at at) same))) (test (same_place p q))

  -- an instance that has failed as often
  pub counts_put : (faults : I → ℕ) (p : Place) (x y : I) (es : List (Place × Slot I)) → slot_at p es ≡ Some (Free x) → faults y ≡ faults x → counts_in faults (with_slot p (Free y) es) ≡ counts_in faults es
  counts_put faults p x y [] at same = refl
  counts_put faults p x y ((q, s) ∷ es) at same = ⊎_elim
      (λ (e : same_place p q ≡ true). let at' : Some s ≡ Some (Free x) = rw e at at in let is : s ≡ Free x = some_same at' in rw e (ap (λ n. n ∷ counts_in faults es) (same ∙ sym (ap (λ z. faults_at faults (Some z)) is))))
      (λ (e : same_place p q ≡ false). rw e (ap (λ l. faults_at faults (Some s) ∷ l) (counts_put faults p x y es (rw e at at) same))) (test (same_place p q))

  pub free_back : (p : Place) (y : I) (es : List (Place × Slot I)) → AllFree es → AllFree (with_slot p (Free y) es)
  free_back p y [] h = tt
  free_back p y ((q, Free x) ∷ es) h = elim (same_place p q) as (λ b. AllFree (if b then (q, Free y) ∷ es else (q, Free x) ∷ with_slot p (Free y) es)) [ true ↦ h | false ↦ free_back p y es h ]
  free_back p y ((q, Leased w) ∷ es) h = absurd h

-- a table that keeps the same has the same places
places_in : {I : Type 0} (holds : I → Option Info) (es : List (Place × Slot I)) → keys_of (held_in holds es) ≡ keys_of es
places_in holds [] = refl
places_in holds ((p, Free x) ∷ es) = ap (λ ps. p ∷ ps) (places_in holds es)
places_in holds ((p, Leased w) ∷ es) = ap (λ ps. p ∷ ps) (places_in holds es)

pub places_kept : {I : Type 0} (holds : I → Option Info) (es fs : List (Place × Slot I)) → held_in holds fs ≡ held_in holds es → keys_of fs ≡ keys_of es
places_kept holds es fs held = sym (places_in holds fs) ∙ (ap keys_of held ∙ places_in holds es)
