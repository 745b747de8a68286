-- An instance that made no frame is given back, and its worker fails.
use Rattle.std.proofs.Common.{◌≡◌, ℕ, true, [], ◌∷◌, ◌++◌, Some, IfSome, sym, refl, ap, ◌∙◌, subst, inl, append_assoc}
use Rattle.std.specs.Prelude.{is_some}
use Rattle.std.specs.Cmp.Derive.{both_true}
use Rattle.std.proofs.lemmas.Bool.Decides.{Decides-ltb}
use Rattle.std.proofs.lemmas.List.Elements.{All-append}
use Rattle.clip_graph.specs.Plan.{application_at, is_source}
use Rattle.inst_table.specs.declared.held.Held.{Ghosts}
use Rattle.inst_table.specs.declared.place.Slot.TheVariants.{Free}
use Rattle.inst_table.specs.Lent.{Lent}
use Rattle.inst_table.specs.Places.{slot_at, shared_place, with_slot}
use Rattle.inst_table.proofs.CallerLemmas.{slot_put}
use Rattle.serve_machine.specs.declared.event.Event.TheVariants.{Leave, Fail}
use Rattle.serve_machine.specs.declared.event.WindowStop.{WindowStop}
use Rattle.serve_machine.specs.declared.event.WindowStop.TheVariants.{Read, Changed, Memory}
use Rattle.serve_machine.specs.Events.{worker_of, has_entered, may_fail, names_source}
use Rattle.serve_machine.proofs.OwnLemmas.{is_own, was_entered}
use Rattle.serve_machine.specs.Work.{abandons}
use Rattle.serve_machine.specs.Holdings.{claims_of}
use Rattle.serve_core.specs.Calls.{after_leave, after_fail}
use Rattle.serve_core.specs.CoreValue.{CoreValue}
use Rattle.serve_core.specs.Holds.{is_free_at, IsThere}
use Rattle.serve_core.specs.Stands.{FitsAct, Fits, ExceedsAct, StopFits, EndShows}
use Rattle.serve_core.specs.Turns.{IsSteady, TurnsAreSteady, ForAllOf, StandsFor}
use Rattle.serve_core.proofs.SteadyLemmas.{turns_are_steady}
use Rattle.serve_core.specs.WorkerValue.{WorkerValue}
use Rattle.serve_core.specs.Works.{MakeStops}
use Rattle.serve_core.proofs.Making.{source_mode, shared_for, fits_more, exceeds, untold_book}
use Rattle.serve_shared.specs.Seats.{CoreSeat, seat_holdings}
use Rattle.serve_shared.specs.Shares.{StopsNow}
use Rattle.serve_shared.specs.Steps.{IsRunning, closed}
use Rattle.serve_shared.specs.Turns.{HasStopped}
use Rattle.serve_shared.proofs.TurnLemmas.{one_mine, abandons_mine, InTurn, plan_is, claims, fails_stands, fails_journal}
use Rattle.serve_shared.proofs.TurnCases.{Leaves, DoesIt, DoesAny, runs, for_seat, is_out, back_stands}

module _ {I : Type 0} (of : Ghosts I) (me : WorkerValue) (seat : CoreSeat I) (c : CoreValue I) (t : InTurn of me seat c)
    (n : ℕ) (same : n ≡ me.number) (l : Lent I) (why : WindowStop) (s : HasStopped of me seat l why) (out : (seat_holdings me seat).leases ≡ l.place ∷ []) where
  -- the core with the instance
  abbrev pub with_it : CoreValue I
  with_it = after_leave c n l.place l.value

  pub new_fits : IfSome seat.tag (λ z. ForAllOf of.feed of.faults z (λ book numbers. Fits of.feed of.faults book numbers me.plan l.place l.value))
  new_fits =
      let here = subst (λ o. IfSome o (λ z. ForAllOf of.feed of.faults z (λ book numbers. Fits of.feed of.faults book numbers me.plan l.place s.old))) t.sits.tag s.lent.fits in
      for_seat of me seat c t (λ z. ForAllOf of.feed of.faults z (λ book numbers. Fits of.feed of.faults book numbers me.plan l.place l.value))
      (λ book numbers stood shared. fits_more of.feed of.faults (application_at me.plan l.place.node).act s.old l.value book numbers s.feed_same s.faults_more (here book numbers stood shared))

  shared : is_source (application_at me.plan s.node).act ≡ true → l.place ≡ shared_place s.node
  shared source = s.lent.place ∙ shared_for me.plan me.number s.node (source_mode me.plan s.node t.sits.is_plan s.in_plan source)

  there : is_source (application_at me.plan s.node).act ≡ true → slot_at (shared_place s.node) with_it.table ≡ Some (Free l.value)
  there source = ap (λ p. slot_at p (with_slot l.place (Free l.value) c.table)) (sym (shared source))
      ∙ slot_put l.place (Free l.value) c.table (ap is_some (is_out of me seat c t n same l out))

  -- the instance of a source, as it was before
  old_fits : is_source (application_at me.plan s.node).act ≡ true → ForAllOf of.feed of.faults t.sits.start (λ book numbers. FitsAct of.feed of.faults book numbers (application_at me.plan s.node).act s.old)
  old_fits source book numbers stood =
      let here = subst (λ o. IfSome o (λ z. ForAllOf of.feed of.faults z (λ book numbers. Fits of.feed of.faults book numbers me.plan l.place s.old))) t.sits.tag s.lent.fits in
      let node : l.place.node ≡ s.node = ap (λ p. p.node) (shared source) in
      subst (λ i. FitsAct of.feed of.faults book numbers (application_at me.plan i).act s.old) node (here book numbers stood (shared source ∙ ap shared_place (sym node)))

  was_in : has_entered n s.node with_it.journal ≡ true
  was_in =
      let here : has_entered me.number s.node c.journal ≡ true = sym (is_own.entered me.number s.node c.journal) ∙ (ap (has_entered me.number s.node) t.own ∙ s.entered) in
      was_entered n s.node c.journal (Leave n l.place.node l.place.instance ∷ []) (ap (λ m. has_entered m s.node c.journal) same ∙ here)

  -- why the worker may fail, in the core with the instance
  pub record MayStop (stop : WindowStop) : Type 0 where
    pub cause : may_fail n stop with_it.journal ≡ true
    pub named : names_source me.plan stop ≡ true
    pub is_there : IsThere with_it.table stop
    pub ended : EndShows of.ends with_it.table stop
    pub right : ForAllOf of.feed of.faults t.sits.start (λ book numbers. StopFits of.feed of.faults book numbers me.plan with_it.table stop)

  stops_by : (stop : WindowStop) → MakeStops of.feed of.faults of.ends me.plan s.node s.old l.value stop → MayStop stop
  stops_by Memory m = record { cause = refl; named = refl; is_there = tt; ended = tt; right = λ book numbers stood. tt }
  stops_by (Read j) m =
      let node : s.node ≡ j = sym m.node_is in
      let at : slot_at (shared_place j) with_it.table ≡ Some (Free l.value) = subst (λ i. slot_at (shared_place i) with_it.table ≡ Some (Free l.value)) node (there m.source) in
      record {
        cause = subst (λ i. has_entered n i with_it.journal ≡ true) node was_in;
        named = subst (λ i. is_source (application_at me.plan i).act ≡ true) node m.source;
        is_there = ap is_free_at at;
        ended = tt;
        right = λ book numbers stood. record {
          instance = l.value;
          there = at;
          more = subst (λ i. ExceedsAct of.feed of.faults book numbers (application_at me.plan i).act l.value) node (exceeds of.feed of.faults (application_at me.plan s.node).act s.old l.value book numbers (old_fits m.source book numbers stood) m.failed);
        };
      }
  stops_by (Changed j frame want got) m =
      let node : s.node ≡ j = sym m.node_is in
      record {
        cause = both_true (subst (λ i. has_entered n i with_it.journal ≡ true) node was_in) ((Decides-ltb got want).1 m.early);
        named = subst (λ i. is_source (application_at me.plan i).act ≡ true) node m.source;
        is_there = tt;
        ended = record { instance = l.value; there = subst (λ i. slot_at (shared_place i) with_it.table ≡ Some (Free l.value)) node (there m.source); early = m.ended };
        right = λ book numbers stood. untold_book of.feed of.faults (application_at me.plan s.node).act s.old book numbers m.source m.untold (old_fits m.source book numbers stood);
      }

  may_stop : MayStop why
  may_stop = stops_by why s.stops

  module _ (e : CoreValue I) (back : e ≡ with_it) where
    pub still_runs : IsRunning n e
    still_runs = let r = runs of me seat c t n same in subst (IsRunning n) (sym back) (record { worker = r.worker; window = r.window; unfailed = r.unfailed })

    pub cause_now : may_fail n why e.journal ≡ true
    cause_now = subst (λ (z : CoreValue I). may_fail n why z.journal ≡ true) (sym back) may_stop.cause

    pub named_now : names_source e.fixed.plan why ≡ true
    named_now = ap (λ (z : CoreValue I). names_source z.fixed.plan why) back ∙ (ap (λ plan. names_source plan why) (plan_is of me seat c t) ∙ may_stop.named)

    pub there_now : IsThere e.table why
    there_now = subst (λ (z : CoreValue I). IsThere z.table why) (sym back) may_stop.is_there

  module _ (e : CoreValue I) (back : e ≡ with_it) (d : CoreValue I) (fails : d ≡ after_fail (closed n e) n why) where
    is : d ≡ after_fail (closed n with_it) n why
    is = fails ∙ ap (λ (z : CoreValue I). after_fail (closed n z) n why) back

    failed_does : DoesIt of me seat c t d (Leave me.number l.place.node l.place.instance ∷ (abandons me.number (seat_holdings me seat).claims ++ Fail me.number why ∷ []))
    failed_does =
        let mine = sym (claims of me seat c t) in record {
          journal = ap (λ (z : CoreValue I). z.journal) is ∙ (fails_journal of me seat n why with_it ∙ (append_assoc c.journal (Leave n l.place.node l.place.instance ∷ []) (abandons n (claims_of n c.claims) ++ Fail n why ∷ [])
              ∙ ((λ i. c.journal ++ Leave (same i) l.place.node l.place.instance ∷ (abandons (same i) (claims_of (same i) c.claims) ++ Fail (same i) why ∷ [])) ∙ ap (λ ks. c.journal ++ Leave me.number l.place.node l.place.instance ∷ (abandons me.number ks ++ Fail me.number why ∷ [])) mine)));
          mine = All-append (λ e. worker_of e ≡ me.number) (Leave me.number l.place.node l.place.instance ∷ []) (abandons me.number (seat_holdings me seat).claims ++ Fail me.number why ∷ []) (one_mine me.number (Leave me.number l.place.node l.place.instance) refl)
              (All-append (λ e. worker_of e ≡ me.number) (abandons me.number (seat_holdings me seat).claims) (Fail me.number why ∷ []) (abandons_mine me.number (seat_holdings me seat).claims) (one_mine me.number (Fail me.number why) refl));
          stands = subst (λ z. StandsFor of.feed of.faults of.ends z t.sits.start) (sym is) (fails_stands of me seat t.sits.start n why (claims_of n with_it.claims) with_it (back_stands of me seat c t n same l out new_fits)
              (λ book numbers stood. subst (λ plan. StopFits of.feed of.faults book numbers plan with_it.table why) (sym t.sits.window.plan_is) (may_stop.right book numbers stood)) may_stop.ended);
          steady = let law : TurnsAreSteady of.faults = turns_are_steady of.faults in subst (λ z. IsSteady of.faults z t.sits.start) (sym is) (law.fail t.sits.start (closed n with_it) n why);
        }

    pub give_back_some : DoesAny of me seat c t d
    give_back_some = record { events = _; does = failed_does }

    pub give_back_ends : (later : CoreSeat I) → Leaves of me seat c t d later → StopsNow me why (Leave me.number l.place.node l.place.instance ∷ []) seat later
    give_back_ends later leaves =
        let z = leaves _ failed_does.journal in
        record { seat_is = z.seat_is; own_seen = z.own_seen; closes = inl z.own_is }
