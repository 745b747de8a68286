-- What a worker has in a core.
use Rattle.std.proofs.Common.{◌≡◌, ℕ, ◌-◌, ◌==◌, true, false, ◌&&◌, ◌||◌, List, [], ◌∷◌, map, slice_get, Option, Some, None, sym, refl, ap, ◌∙◌, ⊎_elim, eq-eqb}
use Rattle.std.specs.Prelude.{option_map}
use Rattle.std.specs.Map.{keys_of}
use Rattle.std.proofs.lemmas.Option.{slice_get-map}
use Rattle.fv_plane.specs.Picture.{Picture}
use Rattle.fv_plane.specs.declared.key.Key.{Key}
use Rattle.frame_cache.specs.Cached.{same_key, at_key}
use Rattle.frame_cache.proofs.CallerLemmas.{test, same_keys}
use Rattle.inst_table.specs.declared.place.Slot.{Slot}
use Rattle.inst_table.specs.declared.place.Slot.TheVariants.{Free, Leased}
use Rattle.inst_table.specs.Places.{same_place, slot_at}
use Rattle.serve_machine.specs.Events.{own_events}
use Rattle.serve_machine.specs.Holdings.{Holdings, outputs_of, IsToldBy}
use Rattle.serve_machine.specs.Law.{bare, keys_machine}
use Rattle.serve_machine.proofs.TruthLemmas.{by_there}
use Rattle.serve_machine.proofs.SeenLemmas.{lookup_seen}
use Rattle.serve_machine.proofs.HoldingLemmas.{own_events_tell}
use Rattle.serve_core.specs.Holds.{claims_at}
use Rattle.serve_core.specs.CoreValue.{CoreValue}
use Rattle.serve_core.specs.Runs.{holder, keys_alone, state_of, IsRun}
use Rattle.serve_core.specs.Workers.{told_holdings, OwnEventsTell}
use Rattle.serve_core.proofs.Places.{some_same}
use Rattle.serve_core.proofs.StepLemmas.{held_as}

out_at : {I : Type 0} → (w : ℕ) (o : Option (Slot I)) → option_map holder o ≡ Some (Some w) → o ≡ Some (Leased w)
out_at w None h = absurd (cc)
out_at w (Some (Free x)) h = let bad : None ≡ Some w = some_same h in absurd (cc)
out_at w (Some (Leased v)) h = ap (λ u. Some (Leased u)) (some_same (some_same h))

undelivered_at : (o : Option (Option Picture)) → option_map (option_map bare) o ≡ Some None → o ≡ Some None
undelivered_at None h = absurd (cc)
undelivered_at (Some None) h = refl
undelivered_at (Some (Some x)) h = let bad : Some tt ≡ None = some_same h in absurd (cc)

node_of : (w : ℕ) (k : Key) (cs : List (Key × ℕ)) → at_key k cs ≡ Some w → claims_at w k.node cs ≡ true
node_of w k [] h = absurd (cc)
node_of w k (c ∷ cs) h = ⊎_elim
    (λ (e : same_key k c.0 ≡ true). let is : Some c.1 ≡ Some w = rw e at h in
    rw (eq-eqb c.1 w (some_same is)) (rw (eq-eqb (c.0).node k.node (sym (ap (λ (j : Key). j.node) (same_keys k c.0 e)))) refl))
    (λ (e : same_key k c.0 ≡ false). let ih = node_of w k cs (rw e at h) in
    elim (c.1 == w && (c.0).node == k.node) as (λ b. (b || claims_at w k.node cs) ≡ true) [ true ↦ refl | false ↦ ih ]) (test (same_key k c.0))

-- in the state that the journal leads to
module _ {I : Type 0} (c : CoreValue I) (w : ℕ) (r : IsRun c) where
  told_in : IsToldBy (keys_machine c.fixed) (own_events w c.journal) (state_of c r.got r.entered) w
  told_in = (own_events_tell (Unit {0})).told (keys_machine c.fixed) (keys_alone c.fixed.opening) (keys_of c.table) c.journal (state_of c r.got r.entered) w r.runs

  -- the outputs that the worker took and has not delivered
  pub told_outputs : (told_holdings c w).outputs ≡ outputs_of w c.fixed.first c.outputs.taken (map (option_map bare) c.outputs.frames)
  told_outputs = ap (λ (h : Holdings). h.outputs) told_in.holdings

pub has_told : (I : Type 0) → OwnEventsTell I
has_told I c w r =
    let told = told_in c w r in
    record {
      claims = ap (λ (h : Holdings). h.claims) told.holdings;
      claim = told.claim;
      node = λ k h. node_of w k c.claims (by_there w (at_key k c.claims) (sym (told.claim k) ∙ h));
      lease = λ p h. out_at w (slot_at p c.table) (sym (lookup_seen holder (same_place p) c.table) ∙ told.lease p h);
      idle = λ h. sym (held_as w c.table) ∙ told.idle h;
      output = λ n h. let o = told.output n h in record {
        low = o.low;
        taken = o.taken;
        undelivered = undelivered_at (slice_get c.outputs.frames (n - c.fixed.first)) (sym (slice_get-map (option_map bare) c.outputs.frames (n - c.fixed.first)) ∙ o.undelivered);
      };
      failed = told.failed;
    }
