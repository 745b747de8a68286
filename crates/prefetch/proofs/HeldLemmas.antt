-- The sources that the instances in a table keep, and how often they have failed.
use Rattle.std.proofs.Common.{◌≡◌, ℕ, true, false, List, [], ◌∷◌, map, Option, Some, None, refl, sym, ap, ◌∙◌, ⊎_elim, subst}
use Rattle.std.specs.List.{AllByRecursion, IsDistinct}
use Rattle.std.specs.Map.{keys_of}
use Rattle.fv_plane.specs.declared.format.Info.{Info}
use Rattle.clip_graph.specs.Plan.{Application}
use Rattle.inst_table.specs.declared.place.Place.{Place}
use Rattle.inst_table.specs.declared.place.Slot.{Slot}
use Rattle.inst_table.specs.declared.place.Slot.TheVariants.{Free, Leased}
use Rattle.inst_table.specs.Places.{same_place, slot_at, PlacesDiffer}
use Rattle.inst_table.proofs.CallerLemmas.{test, same_places, place_itself}
use Rattle.serve_core.specs.Sources.{opened_at, HoldTheirs, faults_at}
use Rattle.serve_core.specs.Turns.{HasCount}
use Rattle.serve_core.specs.Tables.{AllFree, held_in, counts_in}

module _ {I : Type 0} where
  nowhere : (p : Place) (es : List (Place × Slot I)) → AllByRecursion (λ q. same_place p q ≡ false) (keys_of es) → slot_at p es ≡ None
  nowhere p [] differ = refl
  nowhere p (e ∷ es) differ = rw differ.0 (nowhere p es differ.1)

  -- what holds of each instance of a table, by its place
  abbrev OfEach : (Place → I → Type 0) → List (Place × Slot I) → Type 0
  OfEach P es = (p : Place) (x : I) → slot_at p es ≡ Some (Free x) → P p x

  later_hold : (P : Place → I → Type 0) (p : Place) (s : Slot I) (es : List (Place × Slot I)) → AllByRecursion (λ q. same_place p q ≡ false) (keys_of es) → OfEach P ((p, s) ∷ es) → OfEach P es
  later_hold P p s es differ theirs q x at = ⊎_elim
      (λ (same : same_place q p ≡ true). let none : slot_at q es ≡ None = subst (λ r. slot_at r es ≡ None) (sym (same_places q p same)) (nowhere p es differ) in
      let bad : None ≡ Some (Free x) = sym none ∙ at in absurd (cc))
      (λ (other : same_place q p ≡ false). theirs q x (rw other at)) (test (same_place q p))

  module _ (holds : I → Option Info) (plan : List Application) where
    -- they are the sources of their nodes
    held_theirs : (es : List (Place × Slot I)) → AllFree es → PlacesDiffer es → HoldTheirs holds plan es → held_in holds es ≡ map (λ p. (p, opened_at plan p.node)) (keys_of es)
    unfolding IsDistinct
    held_theirs [] free differ theirs = refl
    held_theirs ((p, Free x) ∷ es) free differ theirs =
        let first : holds x ≡ opened_at plan p.node = theirs p x (rw (place_itself p) refl) in
        let rest = held_theirs es free differ.1 (later_hold (λ q y. holds y ≡ opened_at plan q.node) p (Free x) es differ.0 theirs) in
        λ i. (p, first i) ∷ rest i
    held_theirs ((p, Leased w) ∷ es) free differ theirs = absurd free

    -- so two tables of the same places keep the same
    pub held_again : (es fs : List (Place × Slot I)) → keys_of fs ≡ keys_of es → AllFree es → PlacesDiffer es → HoldTheirs holds plan es → AllFree fs → PlacesDiffer fs → HoldTheirs holds plan fs → held_in holds fs ≡ held_in holds es
    held_again es fs same free differ theirs free' differ' theirs' = held_theirs fs free' differ' theirs' ∙ (ap (map (λ p. (p, opened_at plan p.node))) same ∙ sym (held_theirs es free differ theirs))

  module _ (faults : I → ℕ) where
    -- the counts are those of the places in a table before
    counts_theirs : (before es : List (Place × Slot I)) → AllFree es → PlacesDiffer es → OfEach (HasCount faults before) es → counts_in faults es ≡ map (λ p. faults_at faults (slot_at p before)) (keys_of es)
    unfolding IsDistinct
    counts_theirs before [] free differ theirs = refl
    counts_theirs before ((p, Free x) ∷ es) free differ theirs =
        let first : faults x ≡ faults_at faults (slot_at p before) = theirs p x (rw (place_itself p) refl) in
        let rest = counts_theirs before es free differ.1 (later_hold (HasCount faults before) p (Free x) es differ.0 theirs) in
        λ i. first i ∷ rest i
    counts_theirs before ((p, Leased w) ∷ es) free differ theirs = absurd free

    -- so a later table of the same places has the same counts
    pub counts_again : (es fs : List (Place × Slot I)) → keys_of fs ≡ keys_of es → AllFree es → PlacesDiffer es → AllFree fs → PlacesDiffer fs → OfEach (HasCount faults es) fs → counts_in faults fs ≡ counts_in faults es
    counts_again es fs same free differ free' differ' theirs = counts_theirs es fs free' differ' theirs
        ∙ (ap (map (λ p. faults_at faults (slot_at p es))) same ∙ sym (counts_theirs es es free differ (λ p x at. ap (faults_at faults) (sym at))))
