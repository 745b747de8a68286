-- Over a told book the run of a core's keys is a run over its frames.
use Rattle.std.proofs.Common.{◌≡◌, ℕ, suc, ◌+◌, Bool, true, false, List, [], ◌∷◌, map, slice_get, Option, Some, None, sym, refl, ap, ◌∙◌, subst, ⊎_elim, arith}
use Rattle.std.specs.Prelude.{option_map}
use Rattle.std.specs.List.{IsDistinct}
use Rattle.std.specs.Map.{keys_of}
use Rattle.std.proofs.lemmas.List.{length-map}
use Rattle.fv_plane.specs.Picture.{Picture}
use Rattle.fv_plane.specs.declared.key.Key.{Key}
use Rattle.clip_graph.specs.Plan.{Application, key_picture}
use Rattle.frame_cache.specs.Cached.{same_key, at_key, Differ}
use Rattle.frame_cache.proofs.CallerLemmas.{test, same_keys, key_itself, nowhere}
use Rattle.serve_machine.specs.Events.{frame_key}
use Rattle.serve_machine.specs.Machine.{State, has_changed, replay}
use Rattle.serve_machine.specs.Law.{AreRight, IsOpening, told_machine, seen, seen_state, bare, keys_machine}
use Rattle.serve_machine.proofs.LawLemmas.{told_runs_refine}
use Rattle.serve_machine.proofs.LiftLemmas.{runs_lift}
use Rattle.serve_machine.proofs.SeenLemmas.{keys_seen, none_seen}
use Rattle.serve_core.specs.Runs.{keys_alone, opening_of, state_of, framed, told_opening, RunsAreTold}
use Rattle.serve_core.proofs.Places.{some_same}

-- lists that agree
module _ {A : Type 0} (pix : Key → A) where
  later_right : (p : Key × A) (ps : List (Key × A)) → Differ (p ∷ ps) → AreRight pix (p ∷ ps) → AreRight pix ps
  unfolding IsDistinct
  later_right p ps d right k x h = ⊎_elim
      (λ (e : same_key k p.0 ≡ true). let none : at_key k ps ≡ None = subst (λ j. at_key j ps ≡ None) (sym (same_keys k p.0 e)) (nowhere p.0 ps d.0) in
      let bad : None ≡ Some x = sym none ∙ h in absurd (cc))
      (λ (e : same_key k p.0 ≡ false). right k x (rw e h)) (test (same_key k p.0))

  later_differ : (p : Key × A) (ps : List (Key × A)) → Differ (p ∷ ps) → Differ ps
  unfolding IsDistinct
  later_differ p ps d = d.1

  first_right : (p : Key × A) (ps : List (Key × A)) → AreRight pix (p ∷ ps) → p.1 ≡ pix p.0
  first_right p ps right = right p.0 p.1 (rw (key_itself p.0) refl)

  same_pairs : (ps qs : List (Key × A)) → keys_of ps ≡ keys_of qs → Differ ps → Differ qs → AreRight pix ps → AreRight pix qs → ps ≡ qs
  same_pairs [] [] e d f r s = refl
  same_pairs [] (q ∷ qs) e d f r s = absurd (cc)
  same_pairs (p ∷ ps) [] e d f r s = absurd (cc)
  same_pairs (p ∷ ps) (q ∷ qs) e d f r s =
      let key : p.0 ≡ q.0 = cc in
      let keys : keys_of ps ≡ keys_of qs = cc in
      let frame : p.1 ≡ q.1 = first_right p ps r ∙ (ap pix key ∙ sym (first_right q qs s)) in
      let rest = same_pairs ps qs keys (later_differ p ps d) (later_differ q qs f) (later_right p ps d r) (later_right q qs f s) in
      λ i. (key i, frame i) ∷ rest i

same_frames : {A : Type 0} → (xs ys : List (Option A)) (f : ℕ → A) → map (option_map bare) xs ≡ map (option_map bare) ys → ((j : ℕ) (x : A) → slice_get xs j ≡ Some (Some x) → x ≡ f j)
    → ((j : ℕ) (y : A) → slice_get ys j ≡ Some (Some y) → y ≡ f j) → xs ≡ ys
same_frames [] [] f e r s = refl
same_frames [] (y ∷ ys) f e r s = absurd (cc)
same_frames (x ∷ xs) [] f e r s = absurd (cc)
same_frames (None ∷ xs) (None ∷ ys) f e r s =
    let rest : map (option_map bare) xs ≡ map (option_map bare) ys = cc in
    ap (λ l. None ∷ l) (same_frames xs ys (λ j. f (suc j)) rest (λ j x. r (suc j) x) (λ j y. s (suc j) y))
same_frames (None ∷ xs) (Some y ∷ ys) f e r s = absurd (cc)
same_frames (Some x ∷ xs) (None ∷ ys) f e r s = absurd (cc)
same_frames (Some x ∷ xs) (Some y ∷ ys) f e r s =
    let rest : map (option_map bare) xs ≡ map (option_map bare) ys = cc in
    let one : x ≡ y = r 0 x refl ∙ sym (s 0 y refl) in
    let more = same_frames xs ys (λ j. f (suc j)) rest (λ j x. r (suc j) x) (λ j y. s (suc j) y) in
    λ i. Some (one i) ∷ more i

-- keys with their frames
module _ (book : List (List Picture)) (plan : List Application) where
  keys_framed : (ks : List Key) → keys_of (framed book plan ks) ≡ ks
  keys_framed [] = refl
  keys_framed (k ∷ ks) = ap (λ l. k ∷ l) (keys_framed ks)

  alone_framed : (ks : List Key) → keys_alone ks ≡ seen bare (framed book plan ks)
  alone_framed [] = refl
  alone_framed (k ∷ ks) = ap (λ l. (k, tt) ∷ l) (alone_framed ks)

  right_framed : (ks : List Key) → AreRight (key_picture book plan) (framed book plan ks)
  right_framed [] k x h = absurd (cc)
  right_framed (j ∷ ks) k x h = ⊎_elim
      (λ (e : same_key k j ≡ true). let h' : Some (key_picture book plan j) ≡ Some x = rw e at h in sym (some_same h') ∙ ap (key_picture book plan) (sym (same_keys k j e)))
      (λ (e : same_key k j ≡ false). right_framed ks k x (rw e at h)) (test (same_key k j))

module _ {I : Type 0} (feed : I → Option (List Picture)) (faults : I → ℕ) where
  pub runs_are_told : RunsAreTold feed faults
  runs_are_told book numbers c v plan r =
      let alone = alone_framed book c.fixed.plan c.fixed.opening in
      let open' = none_seen bare c.fixed.count in
      let start : opening_of c ≡ seen_state bare (told_opening book c) = λ i. record (opening_of c) { cache = alone i; frames = open' i } in
      let runs : replay (keys_machine c.fixed) (seen_state bare (told_opening book c)) c.journal ≡ Some (state_of c r.got r.entered) =
      subst (λ z. replay (keys_machine c.fixed) z c.journal ≡ Some (state_of c r.got r.entered)) start r.runs in
      let up = runs_lift Picture (told_machine book c.fixed) (told_opening book c) c.journal (state_of c r.got r.entered) (λ _. honest (has_changed c.journal) v.changed) runs in
      let s : State Picture = up.state in
      let l = length-map {B = Key × Picture} c.fixed.opening (λ (k : Key). (k, key_picture book c.fixed.plan k)) in
      let few = r.few in
      let begins : IsOpening (told_machine book c.fixed) (key_picture book c.fixed.plan) (framed book c.fixed.plan c.fixed.opening) = record {
        right = right_framed book c.fixed.plan c.fixed.opening;
        differ = subst (IsDistinct same_key) (sym (keys_framed book c.fixed.plan c.fixed.opening)) r.differ;
        few = omega (arith, l, few);
      } in
      let refined = told_runs_refine book c.fixed (framed book c.fixed.plan c.fixed.opening) (keys_of c.table) c.journal s plan begins up.runs in
      let keys : keys_of s.cache ≡ keys_of c.cache = sym (keys_seen bare s.cache) ∙ (ap (λ (z : State (Unit {0})). keys_of z.cache) up.same ∙ keys_seen bare c.cache) in
      record {
        state = s;
        runs = up.runs;
        refined = refined;
        cached = same_pairs (key_picture book c.fixed.plan) s.cache c.cache keys refined.cached_once (subst (IsDistinct same_key) keys refined.cached_once) refined.cached (λ k x h. v.cached k x h book refl);
        claimed = ap (λ (z : State (Unit {0})). z.claims) up.same;
        lent = ap (λ (z : State (Unit {0})). z.places) up.same;
        taken = ap (λ (z : State (Unit {0})). z.taken) up.same;
        delivered = same_frames s.frames c.outputs.frames (λ j. key_picture book c.fixed.plan (frame_key c.fixed.root (c.fixed.first + j))) (ap (λ (z : State (Unit {0})). z.frames) up.same)
            refined.delivered (λ j x h. v.outputs j x h book refl);
        failed = ap (λ (z : State (Unit {0})). z.failed) up.same;
        stopped = ap (λ (z : State (Unit {0})). z.stop) up.same;
      }
    where
      honest : (b : Bool) → (b ≡ true → Some book ≡ None) → b ≡ false
      honest true h = let bad : Some book ≡ None = h refl in absurd (cc)
      honest false h = refl
