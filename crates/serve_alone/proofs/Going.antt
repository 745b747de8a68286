-- What goes on between two states of the core, put together.
use Rattle.std.proofs.Common.{◌≡◌, ℕ, ◌+◌, ◌<◌, List, [], ◌∷◌, ◌++◌, Option, Some, sym, refl, ap, ◌∙◌, subst, append_assoc, append-nil, ne_eqb, eq-eqb}
use Rattle.fv_plane.specs.declared.format.Info.{Info}
use Rattle.fv_plane.specs.declared.key.Key.{Key}
use Rattle.clip_graph.specs.Plan.{Application}
use Rattle.frame_cache.specs.Cached.{without_key}
use Rattle.inst_table.specs.declared.place.Place.{Place}
use Rattle.inst_table.specs.declared.place.Slot.TheVariants.{Free, Leased}
use Rattle.inst_table.specs.Places.{slot_at, with_slot}
use Rattle.inst_table.proofs.CallerLemmas.{put_again}
use Rattle.serve_machine.specs.declared.event.Event.{Event}
use Rattle.serve_machine.specs.declared.event.Event.TheVariants.{Claim, Enter, Leave, Abandon}
use Rattle.serve_machine.specs.Events.{mode_at, instance_of}
use Rattle.serve_machine.specs.SerialRun.{leases}
use Rattle.serve_core.specs.Calls.{after_leave, after_abandon}
use Rattle.serve_core.specs.CoreValue.{CoreValue}
use Rattle.serve_core.specs.Sources.{place_of}
use Rattle.serve_core.specs.Tables.{AllFree, held_in, counts_in}
use Rattle.serve_alone.specs.Alone.{Alone, AllFrom, Went}
use Rattle.serve_alone.proofs.KeyLemmas.{not_there, closed_claim}
use Rattle.serve_core.proofs.Tables.{free_back, held_put, counts_put}

module _ {I : Type 0} where
  -- a claim is made
  pub claimed_alone : (plan : List Application) (c : CoreValue I) (k : Key) (d : CoreValue I) → d ≡ record c { claims = c.claims ++ (k, 0) ∷ []; journal = c.journal ++ Claim 0 k ∷ [] } → Alone plan c → Alone plan d
  claimed_alone plan c k d e a = subst (Alone plan) (sym e) (record { plan_is = a.plan_is; is_plan = a.is_plan; worker = a.worker; window = a.window; running = a.running; free = a.free })

module _ {I : Type 0} (holds : I → Option Info) where
  pub went_none : (c : CoreValue I) → AllFree c.table → Went holds c c []
  went_none c free = record { journal = sym (append-nil c.journal); claims = refl; fixed = refl; outputs = refl; failed = refl; stop = refl; free = free; held = refl }

  pub went_more : (c d e : CoreValue I) (es fs : List Event) → Went holds c d es → Went holds d e fs → Went holds c e (es ++ fs)
  went_more c d e es fs a b = record {
    journal = b.journal ∙ (ap (λ l. l ++ fs) a.journal ∙ append_assoc c.journal es fs);
    claims = b.claims ∙ a.claims;
    fixed = b.fixed ∙ a.fixed;
    outputs = b.outputs ∙ a.outputs;
    failed = b.failed ∙ a.failed;
    stop = b.stop ∙ a.stop;
    free = b.free;
    held = b.held ∙ a.held;
  }

  pub alone_went : (plan : List Application) (c d : CoreValue I) (es : List Event) → Alone plan c → Went holds c d es → Alone plan d
  alone_went plan c d es a w = record {
    plan_is = ap (λ f. f.plan) w.fixed ∙ a.plan_is;
    is_plan = a.is_plan;
    worker = subst (λ f. 0 < f.workers) (sym w.fixed) a.worker;
    window = subst (λ f. 0 < f.count) (sym w.fixed) a.window;
    running = w.stop ∙ a.running;
    free = w.free;
  }

  -- a claim is made, and events later it is closed
  pub abandon_went : (c c1 e f : CoreValue I) (k : Key) (es : List Event) → c1 ≡ record c { claims = c.claims ++ (k, 0) ∷ []; journal = c.journal ++ Claim 0 k ∷ [] } → AllFrom (k.node + 1) c.claims → Went holds c1 e es → f ≡ after_abandon e 0 k
      → Went holds c f (Claim 0 k ∷ (es ++ Abandon 0 k ∷ []))
  abandon_went c c1 e f k es at above w is = subst (λ (z : CoreValue I). Went holds c z (Claim 0 k ∷ (es ++ Abandon 0 k ∷ []))) (sym is) (record {
    journal = ap (λ l. l ++ Abandon 0 k ∷ []) (w.journal ∙ ap (λ (z : CoreValue I). z.journal ++ es) at) ∙ (ap (λ l. l ++ Abandon 0 k ∷ []) (append_assoc c.journal (Claim 0 k ∷ []) es) ∙ append_assoc c.journal (Claim 0 k ∷ es) (Abandon 0 k ∷ []));
    claims = ap (without_key k) (w.claims ∙ ap (λ (z : CoreValue I). z.claims) at) ∙ closed_claim k 0 c.claims (not_there k c.claims above);
    fixed = w.fixed ∙ ap (λ (z : CoreValue I). z.fixed) at;
    outputs = w.outputs ∙ ap (λ (z : CoreValue I). z.outputs) at;
    failed = w.failed ∙ ap (λ (z : CoreValue I). z.failed) at;
    stop = w.stop ∙ ap (λ (z : CoreValue I). z.stop) at;
    free = w.free;
    held = w.held ∙ ap (λ (z : CoreValue I). held_in holds z.table) at;
  })

  -- an instance is out and comes back
  pub lent_went : (plan : List Application) (c c1 d : CoreValue I) (i : ℕ) (p : Place) (value : I) → c.fixed.plan ≡ plan → (mode_at plan i ≡ 1 → ⊥) → p ≡ place_of c.fixed.plan 0 i
      → c1 ≡ record c { table = with_slot (place_of c.fixed.plan 0 i) (Leased 0) c.table; journal = c.journal ++ Enter 0 i (instance_of c.fixed.plan 0 i) ∷ [] }
      → d ≡ after_leave c1 0 p value → AllFree c.table → (x : I) → slot_at (place_of c.fixed.plan 0 i) c.table ≡ Some (Free x) → holds value ≡ holds x → Went holds c d (leases plan 0 i)
  lent_went plan c c1 d i p value q m place at is free x was same =
      let there : Place = place_of c.fixed.plan 0 i in
      let all : d ≡ after_leave (record c { table = with_slot there (Leased 0) c.table; journal = c.journal ++ Enter 0 i (instance_of c.fixed.plan 0 i) ∷ [] }) 0 there value = is ∙ (ap (λ (z : CoreValue I). after_leave z 0 p value) at ∙ ap (λ (z : Place). after_leave (record c { table = with_slot there (Leased 0) c.table; journal = c.journal ++ Enter 0 i (instance_of c.fixed.plan 0 i) ∷ [] }) 0 z value) place) in
      let table : with_slot there (Free value) (with_slot there (Leased 0) c.table) ≡ with_slot there (Free value) c.table = put_again there (Leased 0) (Free value) c.table in
      let events : leases plan 0 i ≡ Enter 0 i (instance_of c.fixed.plan 0 i) ∷ Leave 0 i (instance_of c.fixed.plan 0 i) ∷ [] = subst (λ pl. (mode_at pl i ≡ 1 → ⊥) → leases pl 0 i ≡ Enter 0 i (instance_of c.fixed.plan 0 i) ∷ Leave 0 i (instance_of c.fixed.plan 0 i) ∷ []) q (λ m'. rw (ne_eqb (mode_at c.fixed.plan i) 1 m') refl) m in
      subst (λ es. Went holds c d es) (sym events) (subst (λ (z : CoreValue I). Went holds c z (Enter 0 i (instance_of c.fixed.plan 0 i) ∷ Leave 0 i (instance_of c.fixed.plan 0 i) ∷ [])) (sym all) (record {
        journal = append_assoc c.journal (Enter 0 i (instance_of c.fixed.plan 0 i) ∷ []) (Leave 0 i (instance_of c.fixed.plan 0 i) ∷ []);
        claims = refl;
        fixed = refl;
        outputs = refl;
        failed = refl;
        stop = refl;
        free = subst AllFree (sym table) (free_back there value c.table free);
        held = ap (held_in holds) table ∙ held_put holds there x value c.table was same;
      }))

-- it comes back with its count of faults
pub lent_steady : {I : Type 0} (faults : I → ℕ) (c c1 d : CoreValue I) (i : ℕ) (p : Place) (value : I) → p ≡ place_of c.fixed.plan 0 i
    → c1 ≡ record c { table = with_slot (place_of c.fixed.plan 0 i) (Leased 0) c.table; journal = c.journal ++ Enter 0 i (instance_of c.fixed.plan 0 i) ∷ [] }
    → d ≡ after_leave c1 0 p value → (x : I) → slot_at (place_of c.fixed.plan 0 i) c.table ≡ Some (Free x) → faults value ≡ faults x → counts_in faults d.table ≡ counts_in faults c.table
lent_steady faults c c1 d i p value place at is x was same =
    let there : Place = place_of c.fixed.plan 0 i in
    let table : d.table ≡ with_slot there (Free value) c.table = ap (λ (z : CoreValue _). z.table) is ∙ (ap (λ (z : CoreValue _). with_slot p (Free value) z.table) at ∙ (ap (λ (z : Place). with_slot z (Free value) (with_slot there (Leased 0) c.table)) place ∙ put_again there (Leased 0) (Free value) c.table)) in
    ap (counts_in faults) table ∙ counts_put faults there x value c.table was same

pub no_lease : (plan : List Application) (i : ℕ) → mode_at plan i ≡ 1 → leases plan 0 i ≡ []
no_lease plan i m = rw (eq-eqb (mode_at plan i) 1 m) refl
