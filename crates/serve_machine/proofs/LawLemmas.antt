-- What holds of every run.
use Rattle.std.proofs.Common.{◌≡◌, ℕ, zero, suc, true, false, List, [], ◌∷◌, ◌++◌, replicate, slice_get, Some, None, sym, ap, ◌∙◌, subst, inr, ⊎_elim, ◌≤◌, length}
use Rattle.std.specs.Prelude.{is_some}
use Rattle.std.specs.List.{IsDistinct}
use Rattle.fv_plane.specs.declared.key.Key.{Key}
use Rattle.clip_graph.specs.Plan.{key_picture}
use Rattle.clip_graph.proofs.UnfoldingLemmas.{unfolds}
use Rattle.frame_cache.specs.Cached.{Differ}
use Rattle.frame_cache.proofs.CallerLemmas.{test}
use Rattle.inst_table.specs.declared.place.Place.{Place}
use Rattle.serve_machine.specs.declared.event.Event.{Event}
use Rattle.serve_machine.specs.Machine.{State, got_at, Machine, allowed, change, replay}
use Rattle.serve_machine.specs.Law.{start_of, Makes, IsOpening, IsRefined, RunsRefine, told_machine, ToldRunsRefine}
use Rattle.serve_machine.proofs.GotLemmas.{got_law}
use Rattle.serve_machine.proofs.KeptLemmas.{Keys, keys_law, Frames, frames_law}
use Rattle.serve_machine.proofs.HolderLemmas.{none_at_start, exclusive_law}
use Rattle.serve_machine.proofs.TruthLemmas.{some_same, some_value}

module _ {F : Type 0} (m : Machine F) where
  -- the rest of a run
  pub later_run : (es fs : List Event) (s r t : State F) → replay m s es ≡ Some r → replay m s (es ++ fs) ≡ Some t → replay m r fs ≡ Some t
  later_run [] fs s r t ran all = subst (λ z. replay m z fs ≡ Some t) (some_same ran) all
  later_run (e ∷ es) fs s r t ran all = ⊎_elim
      (λ (ok : allowed m s e ≡ true). later_run es fs (change m s e) r t (rw ok at ran) (rw ok at all))
      (λ (bad : allowed m s e ≡ false). let none : None ≡ Some r = rw bad at ran in absurd (cc)) (test (allowed m s e))

none_delivered : {F : Type 0} → (n j : ℕ) (x : F) → slice_get (replicate n None) j ≡ Some (Some x) → ⊥
none_delivered zero j x h = absurd (cc)
none_delivered (suc n) zero x h = let bad : None ≡ Some x = some_same h in absurd (cc)
none_delivered (suc n) (suc j) x h = none_delivered n j x h

pub differ_none : (A : Type 0) → Differ {A = A} []
unfolding IsDistinct
differ_none A = tt

pub no_claims : {F : Type 0} → (m : Machine F) (cache : List (Key × F)) → Differ cache → length cache ≤ m.fixed.capacity → Keys m cache []
no_claims m cache differ few = record { cached_once = differ; claimed_once = differ_none ℕ; apart = λ k h. absurd (cc); claimed = λ k h. absurd (cc); bounded = few }

module _ {F : Type 0} (m : Machine F) (pix : Key → F) (makes : Makes m pix) (cache : List (Key × F)) (places : List Place) (begins : IsOpening m pix cache) where
  start_keys : Keys m cache []
  start_keys = no_claims m cache begins.differ begins.few

  start_frames : Frames m pix makes cache [] (replicate m.fixed.count None)
  start_frames = record { cached = begins.right; got = λ w k x h. absurd (cc); delivered = λ j x h. absurd (none_delivered m.fixed.count j x h) }

  pub refined : (events : List Event) (s : State F) → replay m (start_of m cache places) events ≡ Some s → IsRefined m pix (start_of m cache places) events s
  refined events s ran =
      let v = frames_law m pix makes events (start_of m cache places) s start_keys start_frames ran in
      let keys = keys_law m events (start_of m cache places) s start_keys ran in
      record {
        cached = v.cached;
        got = v.got;
        delivered = v.delivered;
        cached_once = keys.cached_once;
        claimed_once = keys.claimed_once;
        apart = keys.apart;
        claimed = keys.claimed;
        bounded = keys.bounded;
        exclusive = λ i j. exclusive_law m i j events (start_of m cache places) s (none_at_start m.fixed.plan i j places) ran;
        stays = λ es fs r w k x all part had. still es fs r w k x (ap (replay m (start_of m cache places)) (sym all) ∙ ran) part had v.got;
      }
    where
      still : (es fs : List Event) (r : State F) (w : ℕ) (k : Key) (x : F) → replay m (start_of m cache places) (es ++ fs) ≡ Some s → replay m (start_of m cache places) es ≡ Some r
          → got_at w k r.got ≡ Some x → ((v : ℕ) (j : Key) (y : F) → got_at v j s.got ≡ Some y → y ≡ pix j) → got_at w k s.got ≡ Some x
      still es fs r w k x all part had right =
          let then' = later_run m es fs (start_of m cache places) r s part all in
          let there = got_law m w k fs r s then' (inr (ap is_some had)) in
          let y = some_value (got_at w k s.got) there in
          let was = frames_law m pix makes es (start_of m cache places) r start_keys start_frames part in
          y.1 ∙ ap Some (right w k y.0 y.1 ∙ sym (was.got w k x had))

pub runs_refine : (F : Type 0) → RunsRefine F
runs_refine F m pix cache places events s makes begins ran = refined m pix makes cache places begins events s ran

pub told_runs_refine : ToldRunsRefine
told_runs_refine book fixed cache places events s plan begins ran =
    refined (told_machine book fixed) (key_picture book fixed.plan) (λ k is. unfolds book fixed.plan k plan is.node) cache places begins events s ran
