-- For callers: the work of a worker, seen in a longer journal.
use Rattle.std.proofs.Common.{◌≡◌, ℕ, ◌≤◌, List, [], ◌∷◌, ◌++◌, Option, Some, None, Result, Ok, Err, sym, refl, ap, ◌∙◌, subst, inl, inr, ⊎_elim, arith, append_assoc, append-nil}
use Rattle.std.proofs.lemmas.List.{append_cancel_left}
use Rattle.clip_graph.specs.Plan.{Application}
use Rattle.turn_lock.specs.Entries.{IsPrefix}
use Rattle.turn_lock.proofs.EntryLemmas.{entries_of-append}
use Rattle.serve_machine.specs.declared.event.Event.{Event}
use Rattle.serve_machine.specs.declared.event.Event.TheVariants.{Hit, Claim, Enter, Leave, Evict, Publish, Abandon, Take, Deliver, Fail}
use Rattle.serve_machine.specs.declared.event.WindowStop.{WindowStop}
use Rattle.serve_machine.specs.Events.{worker_of, own_events}
use Rattle.serve_machine.specs.Work.{CutDeliveries, FailedWork, StoppedWork, CutWork, takes, DeliversAll, IsWork}
use Rattle.serve_machine.specs.Machine.{earlier, first_stop}
use Rattle.serve_machine.proofs.ClosingLemmas.{first_stop-append}
use Rattle.serve_core.specs.CoreValue.{CoreValue}
use Rattle.serve_shared.specs.Shares.{Worked}
pub use Rattle.serve_shared.proofs.EventLemmas.{entries_own}

own-append : (w : ℕ) (es fs : List Event) → own_events w (es ++ fs) ≡ own_events w es ++ own_events w fs
own-append w es fs = sym (entries_own w (es ++ fs)) ∙ (entries_of-append worker_of w es fs ∙ (λ i. entries_own w es i ++ entries_own w fs i))

none_before : (es fs : List Event) → first_stop (es ++ fs) ≡ None → first_stop es ≡ None
none_before es fs h = pick (first_stop es) refl
  where
    pick : (o : Option WindowStop) → first_stop es ≡ o → first_stop es ≡ None
    pick None e = e
    pick (Some why) e = let bad : Some why ≡ None = sym (ap (λ o. earlier o (first_stop fs)) e) ∙ (sym (first_stop-append es fs) ∙ h) in absurd (cc)

takes_more : (es fs : List Event) → takes es ≤ takes (es ++ fs)
takes_more [] fs = omega arith
takes_more (Take w n ∷ es) fs = let ih = takes_more es fs in omega arith
takes_more (Hit w k ∷ es) fs = takes_more es fs
takes_more (Claim w k ∷ es) fs = takes_more es fs
takes_more (Enter w i j ∷ es) fs = takes_more es fs
takes_more (Leave w i j ∷ es) fs = takes_more es fs
takes_more (Evict w k ∷ es) fs = takes_more es fs
takes_more (Publish w k ∷ es) fs = takes_more es fs
takes_more (Abandon w k ∷ es) fs = takes_more es fs
takes_more (Deliver w n ∷ es) fs = takes_more es fs
takes_more (Fail w why ∷ es) fs = takes_more es fs

module _ (plan : List Application) (root count w : ℕ) (seen own list : List Event) (begins : IsPrefix seen list) (all_own : own_events w list ≡ own) where
  stopped_grows : (why : WindowStop) → StoppedWork plan root w why seen own → StoppedWork plan root w why list own
  stopped_grows why s =
      let same : own_events w seen ≡ own = ap (own_events w) s.journal_is ∙ (own-append w s.before s.after ∙ sym s.own_is) in
      let parts : own ++ own_events w begins.0 ≡ own_events w list = ap (λ l. l ++ own_events w begins.0) (sym same) ∙ (sym (own-append w seen begins.0) ∙ ap (own_events w) begins.1) in
      let none : own_events w begins.0 ≡ [] = append_cancel_left own (own_events w begins.0) [] (parts ∙ (all_own ∙ sym (append-nil own))) in
      let after : own_events w (s.after ++ begins.0) ≡ own_events w s.after = own-append w s.after begins.0 ∙ (ap (λ l. own_events w s.after ++ l) none ∙ append-nil (own_events w s.after)) in
      record {
        before = s.before;
        after = s.after ++ begins.0;
        journal_is = sym begins.1 ∙ (ap (λ l. l ++ begins.0) s.journal_is ∙ append_assoc s.before s.after begins.0);
        own_is = s.own_is ∙ ap (λ l. own_events w s.before ++ l) (sym after);
        cut = subst (CutDeliveries plan root w (own_events w s.before)) (sym after) s.cut;
        other = s.other;
        differs = s.differs;
        fails = s.fails;
      }

  -- work that was seen is work in the whole journal, where the worker has added nothing since
  pub work_grows : IsWork plan root count w seen own → IsWork plan root count w list own
  work_grows work = ⊎_elim
      (λ (d : DeliversAll plan root count w seen own). inl (record {
        outputs = d.outputs;
        delivered = d.delivered;
        all = λ running.
            let quiet = none_before seen begins.0 (ap first_stop begins.1 ∙ running) in
            let some = d.all quiet in
            let more = subst (λ l. takes seen ≤ takes l) begins.1 (takes_more seen begins.0) in
            omega (arith, some, more);
      }))
      (λ (c : (why : WindowStop) × CutWork plan root w why seen own). inr (
        c.0,
        ⊎_elim
            (λ (f : FailedWork plan root w c.0 own). inl f)
            (λ (s : StoppedWork plan root w c.0 seen own). inr (stopped_grows c.0 s)) c.1,
      )) work

-- by what a worker answered
pub worked_is_work : {I : Type 0} (plan : List Application) (w : ℕ) (s : CoreValue I) (seen own : List Event) (r : Result (Unit {0}) WindowStop) → Worked plan w s seen own r → IsWork plan s.fixed.root s.fixed.count w seen own
worked_is_work plan w s seen own (Ok u) d = inl d
worked_is_work plan w s seen own (Err why) c = inr (why, c)
