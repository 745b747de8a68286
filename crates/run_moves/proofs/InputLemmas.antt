-- The inputs of a key: of earlier nodes, and of a smaller depth.
use Rattle.std.proofs.Common.{◌≡◌, ℕ, zero, suc, ◌+◌, ◌<◌, ◌≤◌, List, [], ◌∷◌, ◌++◌, length, map, get_or, refl, sym, arith, subst}
use Rattle.std.specs.List.{All, AllByRecursion}
use Rattle.std.proofs.lemmas.List.{length-map}
use Rattle.std.proofs.lemmas.List.Elements.{recursion_from_All}
use Rattle.fv_plane.specs.declared.key.Key.{Key}
use Rattle.clip_term.specs.declared.op.Origin.{Origin}
use Rattle.clip_term.specs.Refusals.{info_at}
use Rattle.clip_term.specs.Terms.{asked, IsSound, AreLawful, IsAsked}
use Rattle.clip_term.proofs.AskedLemmas.{asks_in_range}
use Rattle.clip_graph.specs.Plan.{Application, application_at, infos_among, infos_at, deepest, IsPlan, key_of, input_keys, IsKeyBelow}
use Rattle.clip_graph.proofs.UnfoldingLemmas.{lawful_is, inputs_are_keys}

-- the depth of a node
abbrev pub depth_at : List Application → ℕ → ℕ
depth_at plan i = (application_at plan i).depth

-- a frame of a node before i, and of at most this depth
pub record IsInput (plan : List Application) (i most : ℕ) (j : Key) : Type 0 where
  pub below : IsKeyBelow plan i j
  pub depth : depth_at plan j.node ≤ most

deepest_is : (plan : List Application) (js : List ℕ) (j : ℕ) → j < length js → depth_at plan (get_or js j 0) ≤ deepest plan js
deepest_is plan [] j h = absurd (omega arith)
deepest_is plan (k ∷ ks) zero h = omega arith
deepest_is plan (k ∷ ks) (suc j) h = let ih = deepest_is plan ks j (omega arith) in omega (arith, ih)

info_found : (plan : List Application) (js : List ℕ) (j : ℕ) → j < length js → info_at (infos_among plan js) j ≡ (application_at plan (get_or js j 0)).info
info_found plan [] j h = absurd (omega arith)
info_found plan (k ∷ ks) zero h = refl
info_found plan (k ∷ ks) (suc j) h = info_found plan ks j (omega arith)

module _ (plan : List Application) (is : IsPlan plan) (i : ℕ) (there : i < length plan) where
  long : length (infos_at plan i) ≡ length (application_at plan i).inputs
  long = length-map (application_at plan i).inputs (λ j. (application_at plan j).info)

  lawfuls : AreLawful (infos_at plan i)
  lawfuls j n =
      let js = (application_at plan i).inputs in
      let l = long in
      let below = (is.each i there).lower j (omega arith) in
      rw (info_found plan js j (omega arith)) (lawful_is plan is (get_or js j 0) (omega arith))

  asked_all : (n : ℕ) → All (IsAsked (infos_at plan i)) (asked (application_at plan i).act (infos_at plan i) n)
  asked_all n = asks_in_range (application_at plan i).act (infos_at plan i) n (subst (λ (k : ℕ). IsSound (application_at plan i).act k) (sym long) (is.each i there).sound) lawfuls

  inputs_in : (os : List Origin) → AllByRecursion (IsAsked (infos_at plan i)) os → AllByRecursion (IsKeyBelow plan i) (map (key_of plan i) os)
      → AllByRecursion (IsInput plan i (deepest plan (application_at plan i).inputs)) (map (key_of plan i) os)
  inputs_in [] all below = tt
  inputs_in (o ∷ os) all below =
      let l = long in
      let place = (all.0).input in
      (record { below = below.0; depth = deepest_is plan (application_at plan i).inputs o.input (omega (arith, l, place)) }, inputs_in os all.1 below.1)

-- a key's inputs, whose depth is smaller
abbrev pub most_below : List Application → Key → ℕ
most_below plan k = deepest plan (application_at plan k.node).inputs

pub inputs_are : (plan : List Application) (k : Key) → IsPlan plan → k.node < length plan → AllByRecursion (IsInput plan k.node (most_below plan k)) (input_keys plan k)
inputs_are plan k is there =
    let os = asked (application_at plan k.node).act (infos_at plan k.node) k.n in
    inputs_in plan is k.node there os
    (recursion_from_All (IsAsked (infos_at plan k.node)) os (asked_all plan is k.node there k.n))
    (recursion_from_All (IsKeyBelow plan k.node) (input_keys plan k) (inputs_are_keys plan k is there))

pub depth_is : (plan : List Application) (k : Key) → IsPlan plan → k.node < length plan → depth_at plan k.node ≡ most_below plan k + 1
depth_is plan k is there = (is.each k.node there).depth

-- a part of some keys
module _ (P : Key → Type 0) where
  pub all_left : (ks js all : List Key) → all ≡ ks ++ js → AllByRecursion P all → AllByRecursion P ks
  all_left [] js all e each = tt
  all_left (k ∷ ks) js all e each = let b : AllByRecursion P (k ∷ (ks ++ js)) = subst (AllByRecursion P) e each in (b.0, all_left ks js (ks ++ js) refl b.1)

  pub all_next : (ks : List Key) (j : Key) (js all : List Key) → all ≡ ks ++ j ∷ js → AllByRecursion P all → P j
  all_next [] j js all e each = let b : AllByRecursion P (j ∷ js) = subst (AllByRecursion P) e each in b.0
  all_next (k ∷ ks) j js all e each = let b : AllByRecursion P (k ∷ (ks ++ j ∷ js)) = subst (AllByRecursion P) e each in all_next ks j js (ks ++ j ∷ js) refl b.1
