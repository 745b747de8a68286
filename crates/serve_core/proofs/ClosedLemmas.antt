-- Where each worker has closed what it opened, nothing is open in the core.
use Rattle.std.proofs.Common.{◌≡◌, ℕ, zero, suc, ◌+◌, ◌-◌, ◌<◌, ◌≤◌, ◌==◌, Bool, true, false, not, ◌&&◌, if◌then◌else◌, List, [], ◌∷◌, ◌++◌, map, length, slice_get, Option, Some, None, IfSome, sym, refl, ap, ◌∙◌, subst, ⊎_elim, eq-eqb, length-append, length-set, arith}
use Rattle.std.specs.Prelude.{option_map}
use Rattle.std.specs.List.{AllByRecursion}
use Rattle.std.specs.Map.{keys_of, set_value, remove_entry}
use Rattle.std.proofs.lemmas.Bool.{ltb-true}
use Rattle.std.proofs.lemmas.List.{length-replicate, length-map}
use Rattle.fv_plane.specs.Picture.{Picture}
use Rattle.fv_plane.specs.declared.key.Key.{Key}
use Rattle.frame_cache.specs.Cached.{same_key}
use Rattle.frame_cache.proofs.CallerLemmas.{test, left_true, right_true}
use Rattle.inst_table.specs.declared.place.Place.{Place}
use Rattle.inst_table.specs.declared.place.Slot.{Slot}
use Rattle.inst_table.specs.declared.place.Slot.TheVariants.{Free, Leased}
use Rattle.inst_table.specs.Places.{same_place}
use Rattle.serve_machine.specs.declared.event.Event.{Event}
use Rattle.serve_machine.specs.declared.event.Event.TheVariants.{Hit, Claim, Enter, Leave, Evict, Publish, Abandon, Take, Deliver, Fail}
use Rattle.serve_machine.specs.Events.{worker_of, frame_key}
use Rattle.serve_machine.specs.Machine.{State, place_named, is_open, got_at, Machine, meets, allowed, change, replay}
use Rattle.serve_machine.specs.Law.{start_of, seen, bare, keys_machine}
use Rattle.serve_machine.specs.Holdings.{claims_of, outputs_of}
use Rattle.serve_machine.proofs.TruthLemmas.{some_same}
use Rattle.serve_core.specs.CoreValue.{CoreValue}
use Rattle.serve_core.specs.Holds.{holds_none}
use Rattle.serve_core.specs.Kept.{leases_out}
use Rattle.serve_core.specs.Runs.{holder, keys_alone, opening_of, state_of, IsRun}
use Rattle.serve_core.specs.Workers.{told_holdings, WorkersTell}
use Rattle.serve_machine.specs.Work.{takes}
use Rattle.serve_core.proofs.WorkerLemmas.{has_told, told_outputs}

-- Lists that grow and shrink.

module _ {X : Type 0} (P : X → Type 0) where
  all_push : (xs : List X) (x : X) → AllByRecursion P xs → P x → AllByRecursion P (xs ++ x ∷ [])
  all_push [] x all is = (is, tt)
  all_push (y ∷ ys) x all is = (all.0, all_push ys x all.1 is)

one_more : (vs : List ℕ) (w most : ℕ) → length vs < most → length (vs ++ w ∷ []) ≤ most
one_more vs w most less = let l = length-append vs (w ∷ []) in omega (arith, l)

module _ {K X : Type 0} (t : K → Bool) (P : X → Type 0) where
  all_without : (es : List (K × X)) → AllByRecursion (λ e. P e.1) es → AllByRecursion (λ e. P e.1) (remove_entry t es)
  all_without [] all = tt
  all_without (e ∷ es) all = let ih = all_without es all.1 in
      elim (t e.0) as (λ b. AllByRecursion (λ d. P d.1) (if b then es else e ∷ remove_entry t es)) [ true ↦ all.1 | false ↦ (all.0, ih) ]

  all_set : (es : List (K × X)) (x : X) → AllByRecursion (λ e. P e.1) es → P x → AllByRecursion (λ e. P e.1) (set_value t es x)
  all_set [] x all is = tt
  all_set (e ∷ es) x all is = let ih = all_set es x all.1 is in
      elim (t e.0) as (λ b. AllByRecursion (λ d. P d.1) (if b then (e.0, x) ∷ es else e ∷ set_value t es x)) [ true ↦ (is, all.1) | false ↦ (all.0, ih) ]

module _ {F : Type 0} (m : Machine F) where
  -- a worker of the window
  abbrev IsWorker : ℕ → Type 0
  IsWorker w = w < m.fixed.workers

  abbrev IsFreeOrWorker : Option ℕ → Type 0
  IsFreeOrWorker o = IfSome o IsWorker

  -- in every run each claim, each lease and each output is a worker's, and no more outputs are taken than there are
  pub record AreWorkers (s : State F) : Type 0 where
    pub claimed : AllByRecursion (λ (c : Key × ℕ). IsWorker c.1) s.claims
    pub lent : AllByRecursion (λ (e : Place × Option ℕ). IsFreeOrWorker e.1) s.places
    pub took : AllByRecursion IsWorker s.taken
    pub sized : length s.frames ≡ m.fixed.count
    pub few : length s.taken ≤ m.fixed.count

  workers_step : (s : State F) (e : Event) → worker_of e < m.fixed.workers → meets m s e ≡ true → AreWorkers s → AreWorkers (change m s e)
  workers_step s (Hit w k) less ok v = record { claimed = v.claimed; lent = v.lent; took = v.took; sized = v.sized; few = v.few }
  workers_step s (Claim w k) less ok v = record { claimed = all_push (λ (c : Key × ℕ). IsWorker c.1) s.claims (k, w) v.claimed less; lent = v.lent; took = v.took; sized = v.sized; few = v.few }
  workers_step s (Enter w i j) less ok v = record {
    claimed = v.claimed;
    lent = all_set (same_place (place_named m.fixed.plan i j)) IsFreeOrWorker s.places (Some w) v.lent less;
    took = v.took;
    sized = v.sized;
    few = v.few;
  }
  workers_step s (Leave w i j) less ok v = record {
    claimed = v.claimed;
    lent = all_set (same_place (place_named m.fixed.plan i j)) IsFreeOrWorker s.places None v.lent tt;
    took = v.took;
    sized = v.sized;
    few = v.few;
  }
  workers_step s (Evict w k) less ok v = record { claimed = v.claimed; lent = v.lent; took = v.took; sized = v.sized; few = v.few }
  workers_step s (Publish w k) less ok v = record { claimed = all_without (same_key k) IsWorker s.claims v.claimed; lent = v.lent; took = v.took; sized = v.sized; few = v.few }
  workers_step s (Abandon w k) less ok v = record { claimed = all_without (same_key k) IsWorker s.claims v.claimed; lent = v.lent; took = v.took; sized = v.sized; few = v.few }
  workers_step s (Take w n) less ok v = record {
    claimed = v.claimed;
    lent = v.lent;
    took = all_push IsWorker s.taken w v.took less;
    sized = v.sized;
    few = one_more s.taken w m.fixed.count (ltb-true _ _ (right_true _ _ (left_true _ _ ok)));
  }
  workers_step s (Deliver w n) less ok v = record {
    claimed = v.claimed;
    lent = v.lent;
    took = v.took;
    sized = length-set s.frames (n - m.fixed.first) (got_at w (frame_key m.fixed.root n) s.got) ∙ v.sized;
    few = v.few;
  }
  workers_step s (Fail w why) less ok v = record { claimed = v.claimed; lent = v.lent; took = v.took; sized = v.sized; few = v.few }

  -- each Take is one output more
  takes_step : (s : State F) (e : Event) (es : List Event) → length (change m s e).taken + takes es ≡ length s.taken + takes (e ∷ es)
  takes_step s (Hit w k) es = refl
  takes_step s (Claim w k) es = refl
  takes_step s (Enter w i j) es = refl
  takes_step s (Leave w i j) es = refl
  takes_step s (Evict w k) es = refl
  takes_step s (Publish w k) es = refl
  takes_step s (Abandon w k) es = refl
  takes_step s (Take w n) es = let l = length-append s.taken (w ∷ []) in omega (arith, l)
  takes_step s (Deliver w n) es = refl
  takes_step s (Fail w why) es = refl

  run_text : (events : List Event) (s t : State F) → AreWorkers s → replay m s events ≡ Some t → AreWorkers t × (length t.taken ≡ length s.taken + takes events)
  run_text [] s t v ran = let same : s ≡ t = some_same ran in (subst AreWorkers same v, ap (λ (z : State F). length z.taken) (sym same) ∙ omega arith)
  run_text (e ∷ es) s t v ran = ⊎_elim
      (λ (ok : allowed m s e ≡ true). let may = right_true _ _ ok in
      let rest = run_text es (change m s e) t (workers_step s e (ltb-true _ _ (left_true _ _ may)) (right_true _ _ may) v) (rw ok at ran) in
      (rest.0, rest.1 ∙ takes_step s e es))
      (λ (bad : allowed m s e ≡ false). let none : None ≡ Some t = rw bad at ran in absurd (cc)) (test (allowed m s e))

  none_lent : (places : List Place) → AllByRecursion (λ (e : Place × Option ℕ). IsFreeOrWorker e.1) (map (λ p. (p, None)) places)
  none_lent [] = tt
  none_lent (p ∷ places) = (tt, none_lent places)

  start_workers : (cache : List (Key × F)) (places : List Place) → AreWorkers (start_of m cache places)
  start_workers cache places = record { claimed = tt; lent = none_lent places; took = tt; sized = length-replicate m.fixed.count None; few = omega arith }

-- What no worker has, nobody has.

none_claimed : (workers : ℕ) (cs : List (Key × ℕ)) → AllByRecursion (λ c. c.1 < workers) cs → ((w : ℕ) → w < workers → claims_of w cs ≡ []) → cs ≡ []
none_claimed workers [] all none = refl
none_claimed workers (c ∷ cs) all none = let bad : c.0 ∷ claims_of c.1 cs ≡ [] = rw (eq-eqb c.1 c.1 refl) at (none c.1 all.0) in absurd (cc)

none_out : {I : Type 0} → (workers : ℕ) (es : List (Place × Slot I)) → AllByRecursion (λ e. IfSome e.1 (λ w. w < workers)) (seen holder es)
    → ((w : ℕ) → w < workers → holds_none w es ≡ true) → leases_out es ≡ 0
none_out workers [] all none = refl
none_out workers ((p, Free x) ∷ es) all none = none_out workers es all.1 none
none_out workers ((p, Leased v) ∷ es) all none =
    let mine : not (v == v) ≡ true = left_true _ _ (none v all.0) in let bad : false ≡ true = sym (ap not (eq-eqb v v refl)) ∙ mine in absurd (cc)

by_worker : (workers : ℕ) (vs : List ℕ) (j : ℕ) → AllByRecursion (λ w. w < workers) vs → j < length vs → (w : ℕ) × (w < workers) × (slice_get vs j ≡ Some w)
by_worker workers [] j all less = absurd (omega arith)
by_worker workers (v ∷ vs) zero all less = (v, all.0, refl)
by_worker workers (v ∷ vs) (suc j) all less = by_worker workers vs j all.1 (omega arith)

-- an output that its worker took and has not open is there
delivered_at : (w n j : ℕ) (vs : List ℕ) (frames : List (Option Picture)) → slice_get vs j ≡ Some w → j < length frames
    → outputs_of w n vs (map (option_map bare) frames) ≡ [] → (x : Picture) × (slice_get frames j ≡ Some (Some x))
delivered_at w n j [] frames at less none = absurd (cc)
delivered_at w n j (v ∷ vs) [] at less none = absurd (omega arith)
delivered_at w n zero (v ∷ vs) (Some x ∷ frames) at less none = (x, refl)
delivered_at w n zero (v ∷ vs) (None ∷ frames) at less none =
    let bad : n ∷ outputs_of w (n + 1) vs (map (option_map bare) frames) ≡ [] = rw (eq-eqb v w (some_same at)) at none in absurd (cc)
delivered_at w n (suc j) (v ∷ vs) (frame ∷ frames) at less none = ⊎_elim
    (λ (e : (v == w && is_open (option_map bare frame)) ≡ true). let bad : n ∷ outputs_of w (n + 1) vs (map (option_map bare) frames) ≡ [] = rw e at none in absurd (cc))
    (λ (e : (v == w && is_open (option_map bare frame)) ≡ false). delivered_at w (n + 1) j vs frames at (omega arith) (rw e at none))
    (test (v == w && is_open (option_map bare frame)))

module _ {I : Type 0} (c : CoreValue I) (r : IsRun c) where
  ran : AreWorkers (keys_machine c.fixed) (state_of c r.got r.entered) × (length c.outputs.taken ≡ 0 + takes c.journal)
  ran = run_text (keys_machine c.fixed) c.journal (opening_of c) (state_of c r.got r.entered)
      (start_workers (keys_machine c.fixed) (keys_alone c.fixed.opening) (keys_of c.table)) r.runs

  delivers : ((w : ℕ) → w < c.fixed.workers → (told_holdings c w).outputs ≡ []) → (j : ℕ) → j < length c.outputs.taken → (x : Picture) × (slice_get c.outputs.frames j ≡ Some (Some x))
  delivers none j less =
      let v = ran.0 in
      let who = by_worker c.fixed.workers c.outputs.taken j v.took less in
      let few = v.few in
      let sized = sym (length-map c.outputs.frames (option_map bare)) ∙ v.sized in
      delivered_at who.0 c.fixed.first j c.outputs.taken c.outputs.frames who.2 (omega (arith, few, sized, less)) (sym (told_outputs c who.0 r) ∙ none who.0 who.1)

pub workers_tell : (I : Type 0) → WorkersTell I
workers_tell I = record {
  taken = λ c r. (ran c r).1 ∙ omega arith;
  closed_claims = λ c r none. none_claimed c.fixed.workers c.claims (ran c r).0.claimed (λ w less. sym (has_told I c w r).claims ∙ none w less);
  closed_leases = λ c r none. none_out c.fixed.workers c.table (ran c r).0.lent (λ w less. (has_told I c w r).idle (none w less));
  delivered = delivers;
}
