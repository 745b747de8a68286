-- Counts of faults over the calls of a window.
use Rattle.std.proofs.Common.{◌≡◌, ℕ, Option, Some, None, sym, refl, ap, ◌∙◌, subst, ⊎_elim}
use Rattle.fv_plane.specs.declared.key.Key.{Key}
use Rattle.inst_table.specs.declared.place.Place.{Place}
use Rattle.inst_table.specs.declared.place.Slot.TheVariants.{Free, Leased as LeasedTo}
use Rattle.inst_table.specs.Places.{slot_at}
use Rattle.serve_core.specs.declared.answers.Ask.{Ask}
use Rattle.serve_core.specs.declared.answers.Ask.TheVariants.{Hit, Claimed, Taken, Stopped}
use Rattle.serve_core.specs.declared.answers.Admitted.{Admitted}
use Rattle.serve_core.specs.declared.answers.Admitted.TheVariants.{Leased, Busy, Stopped as Refused}
use Rattle.serve_core.specs.CoreValue.{CoreValue}
use Rattle.serve_core.specs.Calls.{Asked, Admits, after_leave, TookOutput}
use Rattle.serve_core.specs.Sources.{place_of, faults_at}
use Rattle.serve_core.specs.Turns.{HasCount, AnswerHasCount, IsSteady, TurnsAreSteady}
use Rattle.serve_core.proofs.Places.{at_set, not_free, free_same}

module _ {I : Type 0} (faults : I → ℕ) (s : CoreValue I) where
  -- the stop and the table stay
  same : (c d : CoreValue I) → d.stop ≡ c.stop → d.table ≡ c.table → IsSteady faults c s → IsSteady faults d s
  same c d stop table v = record { counts = λ running p x at. v.counts (sym stop ∙ running) p x (ap (slot_at p) (sym table) ∙ at) }

  all_same : (c d : CoreValue I) → d ≡ c → IsSteady faults c s → IsSteady faults d s
  all_same c d e v = subst (λ z. IsSteady faults z s) (sym e) v

  asked : (c d : CoreValue I) (w : ℕ) (k : Key) (answer : Ask) → IsSteady faults c s → Asked c w k answer d → IsSteady faults d s
  asked c d w k (Hit x) v a = same c d (ap (λ (z : CoreValue I). z.stop) a.2) (ap (λ (z : CoreValue I). z.table) a.2) v
  asked c d w k Claimed v a = same c d (ap (λ (z : CoreValue I). z.stop) a.3) (ap (λ (z : CoreValue I). z.table) a.3) v
  asked c d w k (Taken other) v a = all_same c d a.3 v
  asked c d w k (Stopped why) v a = all_same c d a.1 v

  admitted : (c d : CoreValue I) (w i : ℕ) (answer : Admitted I) → IsSteady faults c s → Admits c w i answer d → IsSteady faults d s × AnswerHasCount faults s.table answer
  admitted c d w i (Leased l) v a = (
    subst (λ z. IsSteady faults z s) (sym a.3) (record {
      counts = λ running q x at. ⊎_elim
          (λ (was : slot_at q c.table ≡ Some (Free x)). v.counts running q x was)
          (λ (now : (q ≡ place_of c.fixed.plan w i) × (LeasedTo w ≡ Free x)). absurd (not_free now.1))
          (at_set q (place_of c.fixed.plan w i) (LeasedTo w) (Free x) c.table at);
    }),
    v.counts a.0 l.place l.value (subst (λ p. slot_at p c.table ≡ Some (Free l.value)) (sym a.1) a.2),
  )
  admitted c d w i (Busy other) v a = (all_same c d a.2 v, tt)
  admitted c d w i (Refused why) v a = (all_same c d a.1 v, tt)

  came_back : (c : CoreValue I) (w : ℕ) (p : Place) (x : I) → IsSteady faults c s → HasCount faults s.table p x → IsSteady faults (after_leave c w p x) s
  came_back c w p x v count = record {
    counts = λ running q y at. ⊎_elim
        (λ (was : slot_at q c.table ≡ Some (Free y)). v.counts running q y was)
        (λ (now : (q ≡ p) × (Free x ≡ Free y)). ap faults (sym (free_same now.1)) ∙ (count ∙ ap (λ r. faults_at faults (slot_at r s.table)) (sym now.0)))
        (at_set q p (Free x) (Free y) c.table at);
  }

  taken : (c d : CoreValue I) (w : ℕ) (output : Option ℕ) → IsSteady faults c s → TookOutput c w output d → IsSteady faults d s
  taken c d w None v t = all_same c d t.1 v
  taken c d w (Some n) v t = same c d (ap (λ (z : CoreValue I). z.stop) t.3) (ap (λ (z : CoreValue I). z.table) t.3) v

pub turns_are_steady : {I : Type 0} (faults : I → ℕ) → TurnsAreSteady faults
turns_are_steady faults = record {
  begin = λ s. record { counts = λ running p x at. ap (faults_at faults) (sym at) };
  ask = λ s c d w k answer v a. asked faults s c d w k answer v a;
  enter = λ s c d w i answer v a. admitted faults s c d w i answer v a;
  leave = λ s c w p x v count. came_back faults s c w p x v count;
  publish = λ s c w k x v. same faults s c _ refl refl v;
  abandon = λ s c w k v. same faults s c _ refl refl v;
  take_output = λ s c d w output v t. taken faults s c d w output v t;
  deliver = λ s c w n x v. same faults s c _ refl refl v;
  fail = λ s c w why. record { counts = λ running. absurd (cc) };
}
