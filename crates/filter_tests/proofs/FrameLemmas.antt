-- Frames that are collected as `input_at` names them.
use Rattle.std.proofs.Common.{◌≡◌, ℕ, zero, suc, ◌+◌, ◌≤◌, List, [], ◌∷◌, ◌++◌, length, map, take, Some, None, sym, ap, ◌∙◌, arith}
use Rattle.std.specs.List.{slice_get}
use Rattle.std.proofs.lemmas.Option.{slice_get_within, get_or_from_slice_get}
use Rattle.std.proofs.lemmas.List.{map-append, map_more, take_all}
use Rattle.fv_plane.specs.declared.format.Shape.{Shape}
use Rattle.fv_plane.specs.declared.key.Key.{Key}
use Rattle.fv_plane.specs.Picture.{Picture}
use Rattle.clip_graph.specs.Plan.{Application, application_at, AreOfKeys}

-- one frame more
pub of_keys_more : (plan : List Application) (keys : List Key) (i : ℕ) (key : Key) (old new : List Picture) (frame : Picture) → Some key ≡ slice_get keys i → new ≡ old ++ frame ∷ []
    → frame.shape ≡ (application_at plan key.node).info.shape → AreOfKeys plan (take i keys) old → AreOfKeys plan (take (i + 1) keys) new
of_keys_more plan keys i key old new frame found put is before =
    let shape : Picture → Shape = λ p. p.shape in
    let wanted : Key → Shape = λ k. (application_at plan k.node).info.shape in
    ap (map shape) put ∙ map-append shape old (frame ∷ []) ∙ ap (λ l. l ++ frame.shape ∷ []) before
    ∙ ap (λ s. map wanted (take i keys) ++ s ∷ []) (is ∙ ap wanted (sym (get_or_from_slice_get keys i key key (sym found))))
    ∙ sym (map_more wanted keys i key (slice_get_within keys i key (sym found)))

none_past : {X : Type 0} (xs : List X) (i : ℕ) → None ≡ slice_get xs i → length xs ≤ i
none_past [] i found = omega arith
none_past (x ∷ xs) zero found = absurd (let none : ⊥ = cc in none)
none_past (x ∷ xs) (suc i) found = let rest = none_past xs i found in omega arith

-- and all of them
pub of_keys_all : (plan : List Application) (keys : List Key) (i : ℕ) (frames : List Picture) → None ≡ slice_get keys i → AreOfKeys plan (take i keys) frames → AreOfKeys plan keys frames
of_keys_all plan keys i frames found are = are ∙ ap (map (λ (k : Key). (application_at plan k.node).info.shape)) (take_all i keys (none_past keys i found))
