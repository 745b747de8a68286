-- A plan with one more application.
use Rattle.std.proofs.Common.{◌≡◌, ℕ, zero, suc, ◌<◌, ◌≤◌, List, [], ◌∷◌, ◌++◌, length, get_or, refl, ap, ◌∙◌, sym, arith, inl, inr}
use Rattle.std.specs.Prelude.{◌+◌, max, if◌then◌else◌}
use Rattle.std.proofs.lemmas.List.{length_push, get_or_append_left, get_or_push, map-append, take-append-le, length-map}
use Rattle.std.proofs.lemmas.List.Sums.{sum_by-append}
use Rattle.std.proofs.lemmas.Bool.{cases_eq}
use Rattle.fv_plane.specs.declared.format.Info.{Info}
use Rattle.clip_term.specs.Terms.{ClipTerm, applied, no_terms, and_term}
use Rattle.clip_graph.specs.declared.node.Node.{Node}
use Rattle.clip_graph.specs.declared.graph.TheConstants.Graph.{MAX_NODES}
use Rattle.clip_graph.specs.Nodes.{application_of, plan_of}
use Rattle.clip_graph.specs.Plan.{Application, application_at, no_application, infos_among, deepest, is_source, sources_in, IsApplication, IsPlan, terms_by, term_within, TermsStay}

-- the places before this one
abbrev pub Lower : ℕ → List ℕ → Type 0
Lower n places = (j : ℕ) → j < length places → get_or places j 0 < n

module _ (plan : List Application) (new : Application) where
  -- the places that stood before
  kept : (i : ℕ) → i < length plan → application_at (plan ++ new ∷ []) i ≡ application_at plan i
  kept i there = get_or_append_left plan (new ∷ []) no_application i there

  infos_kept : (places : List ℕ) → Lower (length plan) places → infos_among (plan ++ new ∷ []) places ≡ infos_among plan places
  infos_kept [] lower = refl
  infos_kept (i ∷ places) lower =
      ap (λ (a : Application). a.info ∷ infos_among (plan ++ new ∷ []) places) (kept i (lower zero (omega arith)))
      ∙ ap (λ (infos : List Info). (application_at plan i).info ∷ infos) (infos_kept places (λ j there. lower (suc j) (omega arith)))

  deepest_kept : (places : List ℕ) → Lower (length plan) places → deepest (plan ++ new ∷ []) places ≡ deepest plan places
  deepest_kept [] lower = refl
  deepest_kept (i ∷ places) lower =
      ap (λ (a : Application). max a.depth (deepest (plan ++ new ∷ []) places)) (kept i (lower zero (omega arith)))
      ∙ ap (λ (n : ℕ). max (application_at plan i).depth n) (deepest_kept places (λ j there. lower (suc j) (omega arith)))

-- an application over places that stood before
application_kept : (plan : List Application) (new : Application) (i : ℕ) (is : Application) → i ≤ length plan → IsApplication plan i is → IsApplication (plan ++ new ∷ []) i is
application_kept plan new i is there old =
    let lower : Lower (length plan) is.inputs = λ j within. let below = old.lower j within in omega arith in
    record {
      lower = old.lower;
      sound = old.sound;
      told = rw (infos_kept plan new is.inputs lower) old.told;
      mode = old.mode;
      counted = rw (take-append-le i plan (new ∷ []) there) old.counted;
      depth = rw (deepest_kept plan new is.inputs lower) old.depth;
      shallow = old.shallow;
    }

-- a plan with one more application is a plan
pub IsPlan-push : (plan : List Application) (new : Application) → IsPlan plan → length plan < MAX_NODES → IsApplication plan (length plan) new → IsPlan (plan ++ new ∷ [])
IsPlan-push plan new is room last = record {
  few = omega (arith, length_push plan new);
  each = λ i there. elim (cases_eq i (length plan)) [
    | inl end ↦ rw (end, get_or_push plan new no_application (length plan) refl) (application_kept plan new (length plan) new (omega arith) last)
    | inr other ↦ (let before : i < length plan = omega (arith, length_push plan new, other) in
        rw (kept plan new i before) (application_kept plan new i (application_at plan i) (omega arith) (is.each i before)))
  ];
}

-- one more application changes the number of sources as it is one or not
pub sources_in-push : (plan : List Application) (new : Application) → sources_in (plan ++ new ∷ []) ≡ sources_in plan + (if is_source new.act then 1 else 0)
sources_in-push plan new =
    sum_by-append (λ (a : Application). if is_source a.act then 1 else 0) plan (new ∷ []) ∙ ap (λ (n : ℕ). sources_in plan + n) (omega arith)

-- the nodes of a graph with one more node, and the number of their sources
pub IsPlan-nodes : (old new : List Node) (node : Node) (sources : ℕ) → new ≡ old ++ node ∷ [] → IsPlan (plan_of old) → length old < MAX_NODES → sources ≡ sources_in (plan_of old)
    → IsApplication (plan_of old) (length (plan_of old)) (application_of node)
    → IsPlan (plan_of new) × (sources + (if is_source (application_of node).act then 1 else 0) ≡ sources_in (plan_of new))
IsPlan-nodes old new node sources pushed is room counts last =
    rw (pushed, map-append application_of old (node ∷ [])) (
      IsPlan-push (plan_of old) (application_of node) is (omega (arith, length-map old application_of)) last,
      ap (λ (n : ℕ). n + (if is_source (application_of node).act then 1 else 0)) counts ∙ sym (sources_in-push (plan_of old) (application_of node)),
    )

terms_kept : (f g : ℕ → ClipTerm) (places : List ℕ) → ((j : ℕ) → j < length places → f (get_or places j 0) ≡ g (get_or places j 0)) → terms_by f places ≡ terms_by g places
terms_kept f g [] same = refl
terms_kept f g (i ∷ places) same =
    ap (λ c. and_term c (terms_by f places)) (same zero (omega arith)) ∙ ap (λ cs. and_term (g i) cs) (terms_kept f g places (λ j h. same (suc j) (omega arith)))

term_kept : (plan : List Application) (new : Application) → IsPlan plan → (most i : ℕ) → i < length plan → term_within (plan ++ new ∷ []) most i ≡ term_within plan most i
unfolding term_within
term_kept plan new is zero i there = ap (λ (a : Application). applied a.act no_terms) (kept plan new i there)
term_kept plan new is (suc most) i there =
    rw (kept plan new i there)
    (ap (λ cs. applied (application_at plan i).act cs)
    (terms_kept (term_within (plan ++ new ∷ []) most) (term_within plan most) (application_at plan i).inputs
    (λ j within. let below = (is.each i there).lower j within in term_kept plan new is most (get_or (application_at plan i).inputs j 0) (omega arith))))

pub terms_stay : TermsStay
terms_stay plan new i is there = term_kept plan new is (suc i) i there
