-- The instance that a worker means by a node is the one that the mode of the node asks for.
use Rattle.std.proofs.Common.{◌≡◌, ◌≢◌, ℕ, ◌<◌, ◌==◌, true, false, if◌then◌else◌, List, length, refl, sym, ap, ◌∙◌, ⊎_elim, arith, eq-eqb}
use Rattle.clip_graph.specs.Plan.{Application, IsPlan}
use Rattle.frame_cache.proofs.CallerLemmas.{test}
use Rattle.inst_table.specs.declared.place.Place.{Place}
use Rattle.inst_table.specs.declared.place.Slot.{Slot}
use Rattle.inst_table.specs.Places.{has_place, place_meant, shared_place, own_place}
use Rattle.serve_machine.specs.Events.{mode_at}
use Rattle.serve_core.specs.Sources.{place_of, IsFurnished}

module _ {I : Type 0} {plan : List Application} {workers : ℕ} {table : List (Place × Slot I)} (is : IsPlan plan) (v : IsFurnished plan workers table) where
  pub meant_is : (w i : ℕ) → i < length plan → place_meant w i table ≡ place_of plan w i
  meant_is w i less =
      ap (λ b. if b then shared_place i else own_place w i) (v.shared i less)
      ∙ elim (mode_at plan i == 3) as (λ b. (if b then shared_place i else own_place w i) ≡ record { node = i; instance = if b then 0 else w; shared = b }) [ true ↦ refl | false ↦ refl ]

  second : (i : ℕ) → i < length plan → (mode_at plan i ≡ 1 → ⊥) → (mode_at plan i == 3) ≡ false → mode_at plan i ≡ 2
  second i less not_first h =
      let mode = (is.each i less).mode in
      let not_third : mode_at plan i ≢ 3 = (λ (e : mode_at plan i ≡ 3). let bad : false ≡ true = sym h ∙ eq-eqb (mode_at plan i) 3 e in absurd (cc)) in
      let low = mode.least in
      let high = mode.most in
      omega (arith, low, high, not_first, not_third)

  pub meant_there : (w i : ℕ) → w < workers → i < length plan → (mode_at plan i ≡ 1 → ⊥) → has_place (place_meant w i table) table ≡ true
  meant_there w i few less not_first = ⊎_elim
      (λ (h : (mode_at plan i == 3) ≡ true). let shared : has_place (shared_place i) table ≡ true = v.shared i less ∙ h in rw shared shared)
      (λ (h : (mode_at plan i == 3) ≡ false). let shared : has_place (shared_place i) table ≡ false = v.shared i less ∙ h in rw shared (v.own w i few less (second i less not_first h)))
      (test (mode_at plan i == 3))
