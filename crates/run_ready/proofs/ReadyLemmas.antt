-- What a window of a journal begins with.
use Rattle.std.proofs.Common.{◌≡◌, ℕ, ◌+◌, ◌<◌, ◌≤◌, ◌==◌, true, false, List, [], ◌∷◌, length, Some, None, refl, ⊎_elim, arith}
use Rattle.std.specs.List.{list_any}
use Rattle.std.specs.Map.{lookup}
use Rattle.std.proofs.lemmas.Bool.{eqb-true, leb-true}
use Rattle.clip_graph.specs.Plan.{Application, application_at, IsPlan}
use Rattle.frame_cache.specs.Cached.{Differ}
use Rattle.frame_cache.proofs.CallerLemmas.{test, right_true}
use Rattle.inst_table.specs.declared.place.Place.{Place}
use Rattle.inst_table.specs.Places.{same_place}
use Rattle.serve_machine.specs.Events.{mode_at, WindowEvents}
use Rattle.serve_machine.specs.Journals.{in_window}
use Rattle.serve_machine.proofs.LawLemmas.{differ_none, runs_refine}
use Rattle.run_text.specs.Journal.{KeyCache, places, machine_of, AreFinished, none, also}
use Rattle.run_text.proofs.PlaceLemmas.{free, named_there}
use Rattle.run_ready.specs.Ready.{WindowsCanRender}

-- a place that is found is among these
among : (p : Place) (ps : List Place) → lookup (same_place p) (free ps) ≡ Some None → list_any (same_place p) ps ≡ true
among p [] h = absurd (cc)
among p (q ∷ ps) h = ⊎_elim
    (λ (e : same_place p q ≡ true). rw e refl)
    (λ (e : same_place p q ≡ false). rw e (among p ps (rw e at h))) (test (same_place p q))

module _ (plan : List Application) (root capacity workers : ℕ) where
  -- the cache that finished windows leave
  record Kept (cache : KeyCache) : Type 0 where
    differ : Differ cache
    few : length cache ≤ capacity

  kept : {windows : List WindowEvents} {cache : KeyCache} → AreFinished plan root capacity workers windows cache → Kept cache
  kept none = record { differ = differ_none (Unit {0}); few = omega arith }
  kept (also {cache = cache} window s before run finished) =
      let so_far = kept before in
      let refined = runs_refine (Unit {0}) (in_window (machine_of plan root capacity workers) cache window) (λ k. tt) cache (places plan root capacity workers) window.events s
      (λ k is. refl) (record { right = λ k x is. refl; differ = so_far.differ; few = so_far.few }) run.runs in
      record { differ = refined.cached_once; few = refined.bounded }

  -- and the place that a worker means by a node that has instances
  there : IsPlan plan → (w i : ℕ) → w < workers → i < length plan → (mode_at plan i ≡ 1 → ⊥) → (mode_at plan i == 1) ≡ false
  there is w i less inside other = ⊎_elim
      (λ (one : (mode_at plan i == 1) ≡ true). absurd (other (eqb-true (mode_at plan i) 1 one)))
      (λ (none' : (mode_at plan i == 1) ≡ false). none') (test (mode_at plan i == 1))

pub windows_can_render : WindowsCanRender
windows_can_render plan root capacity workers windows cache window is_plan inside someone room finished is =
    let held = kept plan root capacity workers finished in
    record {
      plan = is_plan;
      root = inside;
      outputs = leb-true (window.first + window.count) (application_at plan root).info.frames (right_true _ _ is);
      someone = someone;
      room = room;
      few = held.few;
      differ = held.differ;
      instances = λ w i less within other. among _ (places plan root capacity workers)
          (named_there plan root capacity workers is_plan i w within less (there plan root capacity workers is_plan w i less within other));
    }
