-- The work of each worker in the journal of a window.
use Rattle.std.proofs.Common.{◌≡◌, ◌⊎◌, ℕ, zero, suc, ◌<◌, ◌==◌, true, false, ◌||◌, List, [], ◌∷◌, ◌++◌, length, slice_index_or, Contains, Option, Some, None, sym, refl, ap, ◌∙◌, subst, inl, inr, ⊎_elim, arith, eq-eqb}
use Rattle.std.proofs.lemmas.List.{append_assoc}
use Rattle.std.proofs.lemmas.List.Elements.{Contains-append_left, Contains-append_right, Contains-push}
use Rattle.clip_graph.specs.Plan.{Application, IsPlan}
use Rattle.serve_machine.specs.declared.event.Event.{Event}
use Rattle.serve_machine.specs.declared.event.Event.TheVariants.{Hit, Claim, Enter, Leave, Evict, Publish, Abandon, Take, Deliver, Fail}
use Rattle.serve_machine.specs.declared.event.WindowStop.{WindowStop}
use Rattle.serve_machine.specs.declared.event.WindowStop.TheVariants.{Read, Changed}
use Rattle.serve_machine.specs.Events.{worker_of, own_events, names_source}
use Rattle.serve_machine.specs.Work.{FailedWork, failed, StoppedWork, CutWork, nothing, DeliversAll, IsWork}
use Rattle.serve_machine.specs.Holdings.{Holdings, holdings_after, own_holdings, next_holdings}
use Rattle.serve_machine.specs.Machine.{stop_of, earlier, first_stop, is_read, has_read, is_changed, has_changed, Machine, meets, allowed, change, replay, State}
use Rattle.inst_table.proofs.CallerLemmas.{test}
use Rattle.serve_machine.proofs.KeyLemmas.{left_true, right_true}
use Rattle.serve_machine.proofs.ClosingLemmas.{work_closes}
use Rattle.serve_machine.proofs.TruthLemmas.{or_true, some_same}

-- STOPS

pub first_or_later : (e : Event) (es : List Event) (x : Event) → Contains (e ∷ es) x → (e ≡ x) ⊎ Contains es x
first_or_later e es x h = go h.0 h.1 h.2
  where
    go : (k : ℕ) → k < suc (length es) → slice_index_or (e ∷ es) k x ≡ x → (e ≡ x) ⊎ Contains es x
    go zero less is = inl is
    go (suc k) less is = inr (k, omega arith, is)

is_failure : (e : Event) (why : WindowStop) → stop_of e ≡ Some why → e ≡ Fail (worker_of e) why
is_failure (Hit w k) why h = absurd (cc)
is_failure (Claim w k) why h = absurd (cc)
is_failure (Enter w i j) why h = absurd (cc)
is_failure (Leave w i j) why h = absurd (cc)
is_failure (Evict w k) why h = absurd (cc)
is_failure (Publish w k) why h = absurd (cc)
is_failure (Abandon w k) why h = absurd (cc)
is_failure (Take w n) why h = absurd (cc)
is_failure (Deliver w n) why h = absurd (cc)
is_failure (Fail w x) why h = ap (Fail w) (some_same h)

-- the first stop is that of a failure
pub failure_of : (es : List Event) (why : WindowStop) → first_stop es ≡ Some why → (w : ℕ) × Contains es (Fail w why)
failure_of [] why h = absurd (cc)
failure_of (e ∷ es) why h = go (failure_of es why) (stop_of e) refl h
  where
    go : (first_stop es ≡ Some why → (w : ℕ) × Contains es (Fail w why)) → (o : Option WindowStop) → stop_of e ≡ o → earlier o (first_stop es) ≡ Some why → (w : ℕ) × Contains (e ∷ es) (Fail w why)
    go later None is first = let rest = later first in (rest.0, Contains-append_right (e ∷ []) es (Fail rest.0 why) rest.1)
    go later (Some x) is first = (worker_of e, subst (Contains (e ∷ es)) (is_failure e why (is ∙ first)) (0, omega arith, refl))

later_none : (o later : Option WindowStop) → earlier o later ≡ None → later ≡ None
later_none None later h = h
later_none (Some x) later h = absurd (cc)

-- where something failed there is a first stop
pub stopped_by : (es : List Event) (w : ℕ) (why : WindowStop) → Contains es (Fail w why) → first_stop es ≡ None → ⊥
stopped_by [] w why h none = let less = h.1 in omega arith
stopped_by (e ∷ es) w why h none = ⊎_elim
    (λ (is : e ≡ Fail w why). let bad : Some why ≡ None = subst (λ z. earlier (stop_of z) (first_stop es) ≡ None) is none in absurd (cc))
    (λ (rest : Contains es (Fail w why)). stopped_by es w why rest (later_none (stop_of e) (first_stop es) none)) (first_or_later e es (Fail w why) h)

-- a refused read, and a source that ended too early
pub read_by : (es : List Event) (w i : ℕ) → Contains es (Fail w (Read i)) → has_read i es ≡ true
read_by [] w i h = let less = h.1 in absurd (omega arith)
read_by (e ∷ es) w i h = ⊎_elim
    (λ (is : e ≡ Fail w (Read i)). subst (λ z. (is_read i (stop_of z) || has_read i es) ≡ true) (sym is) (rw (eq-eqb i i refl) refl))
    (λ (rest : Contains es (Fail w (Read i))). or_true (is_read i (stop_of e)) (has_read i es) (inr (read_by es w i rest))) (first_or_later e es (Fail w (Read i)) h)

pub changed_by : (es : List Event) (w i frame want got : ℕ) → Contains es (Fail w (Changed i frame want got)) → has_changed es ≡ true
changed_by [] w i frame want got h = let less = h.1 in absurd (omega arith)
changed_by (e ∷ es) w i frame want got h = ⊎_elim
    (λ (is : e ≡ Fail w (Changed i frame want got)). subst (λ z. (is_changed (stop_of z) || has_changed es) ≡ true) (sym is) refl)
    (λ (rest : Contains es (Fail w (Changed i frame want got))). or_true (is_changed (stop_of e)) (has_changed es) (inr (changed_by es w i frame want got rest))) (first_or_later e es (Fail w (Changed i frame want got)) h)

-- each failure of a run names a source of the plan, or none
pub named_by : {F : Type 0} (m : Machine F) (s t : State F) (es : List Event) (w : ℕ) (why : WindowStop) → replay m s es ≡ Some t → Contains es (Fail w why) → names_source m.fixed.plan why ≡ true
named_by m s t [] w why ran h = let less = h.1 in absurd (omega arith)
named_by m s t (e ∷ es) w why ran h = ⊎_elim
    (λ (ok : allowed m s e ≡ true). ⊎_elim
    (λ (is : e ≡ Fail w why). let met : meets m s (Fail w why) ≡ true = right_true _ _ (right_true _ _ (subst (λ z. allowed m s z ≡ true) is ok)) in right_true _ _ (left_true _ _ met))
    (λ (rest : Contains es (Fail w why)). named_by m (change m s e) t es w why (rw ok at ran) rest) (first_or_later e es (Fail w why) h))
    (λ (bad : allowed m s e ≡ false). let none' : None ≡ Some t = rw bad at ran in absurd (cc)) (test (allowed m s e))

-- THE EVENTS OF A WORKER

own_among : (w : ℕ) (es : List Event) (x : Event) → Contains (own_events w es) x → Contains es x
own_among w [] x h = h
own_among w (e ∷ es) x h = ⊎_elim
    (λ (mine : (worker_of e == w) ≡ true). ⊎_elim
    (λ (is : e ≡ x). (0, omega arith, is))
    (λ (rest : Contains (own_events w es) x). Contains-append_right (e ∷ []) es x (own_among w es x rest)) (first_or_later e (own_events w es) x (rw mine at h)))
    (λ (other : (worker_of e == w) ≡ false). Contains-append_right (e ∷ []) es x (own_among w es x (rw other at h))) (test (worker_of e == w))

failed_last : {plan : List Application} {root w : ℕ} {why : WindowStop} {own : List Event} → FailedWork plan root w why own → (before : List Event) × (own ≡ before ++ Fail w why ∷ [])
failed_last {w = w} {why = why} (failed {done = done} {closing = closing} cut) = (done ++ closing, sym (append_assoc done closing (Fail w why ∷ [])))

module _ (plan : List Application) (root count w : ℕ) (list own : List Event) (is : own_events w list ≡ own) where
  -- the stop of work that was cut short is in the journal
  cut_by : (why : WindowStop) → CutWork plan root w why list own → (v : ℕ) × Contains list (Fail v why)
  cut_by why work = ⊎_elim
      (λ (f : FailedWork plan root w why own). let last = failed_last f in (w, own_among w list (Fail w why) (subst (λ l. Contains l (Fail w why)) (sym (is ∙ last.1)) (Contains-push last.0 (Fail w why)))))
      (λ (s : StoppedWork plan root w why list own). (s.other, subst (λ l. Contains l (Fail s.other why)) (sym s.journal_is) (Contains-append_left s.before s.after (Fail s.other why) s.fails))) work

  -- so where nothing stopped the work is whole
  pub whole_work : first_stop list ≡ None → IsWork plan root count w list own → DeliversAll plan root count w list own
  whole_work running work = ⊎_elim (λ (d : DeliversAll plan root count w list own). d)
      (λ (cut : (why : WindowStop) × CutWork plan root w why list own). let f = cut_by cut.0 cut.1 in absurd (stopped_by list f.0 cut.0 f.1 running)) work

-- WHAT IT LEAVES OPEN

after_fail : (plan : List Application) (h : Holdings) (es : List Event) (w : ℕ) (why : WindowStop) → holdings_after plan h (es ++ Fail w why ∷ []) ≡ holdings_after plan h es
after_fail plan h [] w why = refl
after_fail plan h (e ∷ es) w why = after_fail plan (next_holdings plan h e) es w why

module _ (plan : List Application) (root w : ℕ) (is : IsPlan plan) (less : root < length plan) where
  failed_closed : {why : WindowStop} {own : List Event} → FailedWork plan root w why own → ((own_holdings plan own).claims ≡ []) × ((own_holdings plan own).leases ≡ [])
  failed_closed {why = why} (failed {done = done} {closing = closing} cut) =
      let same : own_holdings plan (done ++ (closing ++ Fail w why ∷ [])) ≡ own_holdings plan (done ++ closing)
      = ap (own_holdings plan) (sym (append_assoc done closing (Fail w why ∷ []))) ∙ after_fail plan nothing (done ++ closing) w why in
      (ap (λ (h : Holdings). h.claims) same ∙ work_closes.cut_claims plan root w done closing is less cut, ap (λ (h : Holdings). h.leases) same ∙ work_closes.cut_leases plan root w done closing is less cut)

  -- no claim and no instance
  pub work_closed : (count : ℕ) (list own : List Event) → IsWork plan root count w list own → ((own_holdings plan own).claims ≡ []) × ((own_holdings plan own).leases ≡ [])
  work_closed count list own work = ⊎_elim
      (λ (d : DeliversAll plan root count w list own). let none' = work_closes.deliveries plan root w d.outputs own is less d.delivered in (ap (λ (h : Holdings). h.claims) none', ap (λ (h : Holdings). h.leases) none'))
      (λ (cut : (why : WindowStop) × CutWork plan root w why list own). ⊎_elim (λ (f : FailedWork plan root w cut.0 own). failed_closed f)
      (λ (s : StoppedWork plan root w cut.0 list own). (
        ap (λ l. (own_holdings plan l).claims) s.own_is ∙ work_closes.cut_claims plan root w (own_events w s.before) (own_events w s.after) is less s.cut,
        ap (λ l. (own_holdings plan l).leases) s.own_is ∙ work_closes.cut_leases plan root w (own_events w s.before) (own_events w s.after) is less s.cut,
      )) cut.1) work

  -- and where it is whole, no output
  pub work_delivered : (count : ℕ) (list own : List Event) → DeliversAll plan root count w list own → (own_holdings plan own).outputs ≡ []
  work_delivered count list own d = ap (λ (h : Holdings). h.outputs) (work_closes.deliveries plan root w d.outputs own is less d.delivered)
