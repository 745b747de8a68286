-- What a worker knows in its turn, and what the turn leaves.
use Rattle.std.proofs.Common.{◌≡◌, ℕ, ◌<◌, List, [], ◌∷◌, ◌++◌, Some, IfSome, sym, refl, ap, ◌∙◌, subst, inl, inr, ⊎_elim, append_assoc, append-nil}
use Rattle.std.specs.Prelude.{is_some}
use Rattle.std.specs.List.{All}
use Rattle.std.specs.Map.{keys_of}
use Rattle.std.proofs.lemmas.List.Elements.{All-nil, All-cons, All-append}
use Rattle.fv_plane.specs.declared.key.Key.{Key}
use Rattle.inst_table.specs.declared.held.Held.{Ghosts}
use Rattle.turn_lock.specs.Entries.{IsPrefix, entries_of, AddsOnly}
use Rattle.serve_machine.specs.declared.event.Event.{Event}
use Rattle.serve_machine.specs.declared.event.Event.TheVariants.{Abandon, Fail}
use Rattle.serve_machine.specs.declared.event.WindowStop.{WindowStop}
use Rattle.serve_machine.specs.declared.event.WindowStop.TheVariants.{Memory}
use Rattle.serve_machine.specs.Events.{worker_of, own_events}
use Rattle.serve_machine.specs.Work.{abandons}
use Rattle.serve_machine.specs.Holdings.{own_holdings, claims_of}
use Rattle.serve_machine.specs.Law.{keys_machine}
use Rattle.serve_machine.specs.Machine.{first_stop}
use Rattle.serve_machine.proofs.HoldingLemmas.{own_events_tell}
use Rattle.serve_core.specs.Calls.{after_fail}
use Rattle.serve_core.specs.CoreValue.{CoreValue}
use Rattle.serve_core.specs.Runs.{IsRun, keys_alone, state_of}
use Rattle.serve_core.specs.Stands.{StopFits, EndShows}
use Rattle.serve_core.specs.Turns.{IsSteady, TurnsAreSteady, ForAllOf, StandsFor, TurnsStand}
use Rattle.serve_core.specs.Workers.{HasTold, told_holdings}
use Rattle.serve_core.proofs.WorkerLemmas.{has_told}
use Rattle.serve_core.specs.WorkerValue.{WorkerValue}
use Rattle.serve_shared.specs.Seats.{CoreSeat, seat_holdings, HasSeat, IsSeat, Adds}
use Rattle.serve_shared.specs.Shares.{StopsNow}
use Rattle.serve_shared.specs.Steps.{IsRunning, given_up, closed, RunsOut, RunsOutFirst, Refuses}
use Rattle.serve_core.proofs.SteadyLemmas.{turns_are_steady}
use Rattle.serve_core.proofs.TurnLemmas.{turns_stand}
use Rattle.serve_shared.proofs.ClaimLemmas.{given_table, given_journal}
use Rattle.serve_shared.proofs.EventLemmas.{entries_own, stopped_by}
use Rattle.serve_shared.proofs.RunLemmas.{first_is_kept}

pub one_mine : (w : ℕ) (e : Event) → worker_of e ≡ w → All (λ e. worker_of e ≡ w) (e ∷ [])
one_mine w e mine = All-cons (λ e. worker_of e ≡ w) e [] mine (All-nil (λ e. worker_of e ≡ w))

pub abandons_mine : (w : ℕ) (ks : List Key) → All (λ e. worker_of e ≡ w) (abandons w ks)
abandons_mine w [] = All-nil (λ e. worker_of e ≡ w)
abandons_mine w (k ∷ ks) = All-append (λ e. worker_of e ≡ w) (abandons w ks) (Abandon w k ∷ []) (abandons_mine w ks) (one_mine w (Abandon w k) refl)

module _ {I : Type 0} (of : Ghosts I) (me : WorkerValue) (seat : CoreSeat I) where
  -- c is the core at the start of a turn: one of the window, in which the worker has what its seat tells
  pub record InTurn (c : CoreValue I) : Type 0 where
    pub sits : HasSeat me seat
    pub stands : StandsFor of.feed of.faults of.ends c sits.start
    pub steady : IsSteady of.faults c sits.start
    pub run : IsRun c
    pub seen : IsPrefix seat.seen c.journal
    pub own : own_events me.number c.journal ≡ seat.own

  pub in_turn : (c : CoreValue I) → HasSeat me seat → IfSome seat.tag (λ s. StandsFor of.feed of.faults of.ends c s × IsSteady of.faults c s) → (0 < c.fixed.count → IsRun c) → entries_of worker_of seat.number c.journal ≡ seat.own → IsPrefix seat.seen c.journal → InTurn c
  in_turn c sits stands run own seen =
      let at : StandsFor of.feed of.faults of.ends c sits.start × IsSteady of.faults c sits.start = subst (λ o. IfSome o (λ s. StandsFor of.feed of.faults of.ends c s × IsSteady of.faults c s)) sits.tag stands in record {
        sits = sits;
        stands = at.0;
        steady = at.1;
        run = run (subst (λ f. 0 < f.count) (sym at.0.fixed) sits.window.window);
        seen = seen;
        own = sym (entries_own me.number c.journal) ∙ (ap (λ n. entries_of worker_of n c.journal) (sym sits.number) ∙ own);
      }

  law : TurnsStand of.feed of.faults of.ends
  law = turns_stand of.feed of.faults of.ends

  steady_law : TurnsAreSteady of.faults
  steady_law = turns_are_steady of.faults

  -- claims given up, and a failure after it, leave a core of the window

  pub given_stands : (s : CoreValue I) (w : ℕ) (ks : List Key) (c : CoreValue I) → StandsFor of.feed of.faults of.ends c s → StandsFor of.feed of.faults of.ends (given_up w ks c) s
  given_stands s w [] c st = st
  given_stands s w (k ∷ ks) c st = law.abandon s (given_up w ks c) w k (given_stands s w ks c st)

  given_steady : (s : CoreValue I) (w : ℕ) (ks : List Key) (c : CoreValue I) → IsSteady of.faults c s → IsSteady of.faults (given_up w ks c) s
  given_steady s w [] c st = st
  given_steady s w (k ∷ ks) c st = steady_law.abandon s (given_up w ks c) w k (given_steady s w ks c st)

  pub fails_stands : (s : CoreValue I) (w : ℕ) (why : WindowStop) (ks : List Key) (c : CoreValue I) → StandsFor of.feed of.faults of.ends c s → ForAllOf of.feed of.faults s (λ book numbers. StopFits of.feed of.faults book numbers s.fixed.plan c.table why) → EndShows of.ends c.table why
      → StandsFor of.feed of.faults of.ends (after_fail (given_up w ks c) w why) s
  fails_stands s w why ks c st fits ended =
      let same = sym (given_table w ks c) in
      law.fail s (given_up w ks c) w why (given_stands s w ks c st) (λ book numbers stood. subst (λ table. StopFits of.feed of.faults book numbers s.fixed.plan table why) same (fits book numbers stood)) (subst (λ table. EndShows of.ends table why) same ended)

  pub fails_journal : (w : ℕ) (why : WindowStop) (c : CoreValue I) → (after_fail (closed w c) w why).journal ≡ c.journal ++ (abandons w (claims_of w c.claims) ++ Fail w why ∷ [])
  fails_journal w why c = ap (λ l. l ++ Fail w why ∷ []) (given_journal w (claims_of w c.claims) c) ∙ append_assoc c.journal (abandons w (claims_of w c.claims)) (Fail w why ∷ [])

  module _ (c : CoreValue I) (t : InTurn c) where
    pub plan_is : c.fixed.plan ≡ me.plan
    plan_is = ap (λ f. f.plan) t.stands.fixed ∙ t.sits.window.plan_is

    pub told : HasTold c me.number
    told = has_told I c me.number t.run

    pub holdings : told_holdings c me.number ≡ seat_holdings me seat
    holdings = λ i. own_holdings (plan_is i) (t.own i)

    pub claims : (seat_holdings me seat).claims ≡ claims_of me.number c.claims
    claims =
        let told = (own_events_tell (Unit {0})).told (keys_machine c.fixed) (keys_alone c.fixed.opening) (keys_of c.table) c.journal (state_of c t.run.got t.run.entered) me.number t.run.runs in
        ap (λ h. h.claims) (sym holdings ∙ told.holdings)

    pub running : IsRunning me.number c
    running = record {
      worker = subst (λ f. me.number < f.workers) (sym t.stands.fixed) t.sits.window.worker;
      window = subst (λ f. 0 < f.count) (sym t.stands.fixed) t.sits.window.window;
      unfailed = told.failed (subst (λ f. me.number < f.workers) (sym t.stands.fixed) t.sits.window.worker) ∙ ap (λ es. Some (is_some (first_stop es))) t.own ∙ ap (λ o. Some (is_some o)) t.sits.running;
    }

    -- what a turn does: d is the core at its end
    pub record Does (d : CoreValue I) (events : List Event) : Type 0 where
      pub journal : d.journal ≡ c.journal ++ events
      pub mine : All (λ e. worker_of e ≡ me.number) events
      pub stands : StandsFor of.feed of.faults of.ends d t.sits.start
      pub steady : IsSteady of.faults d t.sits.start

    pub record DoesSome (d : CoreValue I) : Type 0 where
      pub events : List Event
      pub does : Does d events

    -- the end of the turn

    module _ (turn : CoreSeat I) (is_turn : turn ≡ record seat { seen = c.journal }) where
      pub stands_left : (d : CoreValue I) → DoesSome d → IfSome turn.tag (λ s. StandsFor of.feed of.faults of.ends d s × IsSteady of.faults d s)
      stands_left d s = subst (λ o. IfSome o (λ z. StandsFor of.feed of.faults of.ends d z × IsSteady of.faults d z)) (sym (ap (λ z. z.tag) is_turn ∙ t.sits.tag)) (s.does.stands, s.does.steady)

      pub adds_left : (d : CoreValue I) → DoesSome d → AddsOnly worker_of turn.number turn.seen d.journal
      adds_left d s = subst (λ (z : CoreSeat I). AddsOnly worker_of z.number z.seen d.journal) (sym is_turn)
          (s.events, s.does.journal, subst (λ n. All (λ e. worker_of e ≡ n) s.events) (sym t.sits.number) s.does.mine)

    -- the seat after the turn
    pub record Left (events : List Event) (later : CoreSeat I) : Type 0 where
      pub seat_is : IsSeat seat later
      pub own_is : later.own ≡ seat.own ++ events
      pub seen_is : later.seen ≡ c.journal ++ events
      pub own_seen : entries_of worker_of me.number later.seen ≡ later.own

    pub left_turn : (d : CoreValue I) (turn later : CoreSeat I) → turn ≡ record seat { seen = c.journal } → later ≡ record turn { seen = d.journal; own = entries_of worker_of turn.number d.journal }
        → ((added : List Event) → d.journal ≡ turn.seen ++ added → later.own ≡ turn.own ++ added) → (events : List Event) → d.journal ≡ c.journal ++ events → Left events later
    left_turn d turn later is_turn is_later own events journal =
        let seen : later.seen ≡ c.journal ++ events = ap (λ z. z.seen) is_later ∙ journal in record {
          seat_is = record {
            same = is_later ∙ ((λ i. record (is_turn i) { seen = d.journal; own = entries_of worker_of turn.number d.journal }) ∙ (λ i. record seat { seen = (sym (ap (λ z. z.seen) is_later)) i; own = (sym (ap (λ z. z.own) is_later)) i }));
            seen = subst (IsPrefix seat.seen) (sym seen) (t.seen.0 ++ events, sym (append_assoc seat.seen t.seen.0 events) ∙ ap (λ l. l ++ events) t.seen.1);
          };
          own_is = own events (journal ∙ ap (λ z. z.seen ++ events) (sym is_turn)) ∙ ap (λ z. z.own ++ events) is_turn;
          seen_is = seen;
          own_seen = ap (entries_of worker_of me.number) (ap (λ z. z.seen) is_later) ∙ (ap (λ n. entries_of worker_of n d.journal) (sym (ap (λ z. z.number) is_turn ∙ t.sits.number)) ∙ sym (ap (λ z. z.own) is_later));
        }

    pub adds : (events : List Event) (later : CoreSeat I) → Left events later → Adds events seat later
    adds events later l = record { seat_is = l.seat_is; own = l.own_is }

    -- nothing was done
    pub same_does : (d : CoreValue I) → d ≡ c → Does d []
    same_does d is = record {
      journal = ap (λ (z : CoreValue I). z.journal) is ∙ sym (append-nil c.journal);
      mine = All-nil (λ e. worker_of e ≡ me.number);
      stands = subst (λ z. StandsFor of.feed of.faults of.ends z t.sits.start) (sym is) t.stands;
      steady = subst (λ z. IsSteady of.faults z t.sits.start) (sym is) t.steady;
    }

    -- Work that is closed.

    pub closed_does : (d : CoreValue I) → d ≡ closed me.number c → Does d (abandons me.number (seat_holdings me seat).claims)
    closed_does d is = record {
      journal = ap (λ (z : CoreValue I). z.journal) is ∙ (given_journal me.number (claims_of me.number c.claims) c ∙ ap (λ ks. c.journal ++ abandons me.number ks) (sym claims));
      mine = abandons_mine me.number (seat_holdings me seat).claims;
      stands = subst (λ z. StandsFor of.feed of.faults of.ends z t.sits.start) (sym is) (given_stands t.sits.start me.number (claims_of me.number c.claims) c t.stands);
      steady = subst (λ z. IsSteady of.faults z t.sits.start) (sym is) (given_steady t.sits.start me.number (claims_of me.number c.claims) c t.steady);
    }

    pub out_does : (why : WindowStop) (d : CoreValue I) → RunsOut me.number why c d → Does d (abandons me.number (seat_holdings me seat).claims ++ Fail me.number Memory ∷ [])
    out_does why d out = record {
      journal = ap (λ (z : CoreValue I). z.journal) out.1 ∙ (fails_journal me.number Memory c ∙ ap (λ ks. c.journal ++ (abandons me.number ks ++ Fail me.number Memory ∷ [])) (sym claims));
      mine = All-append (λ e. worker_of e ≡ me.number) (abandons me.number (seat_holdings me seat).claims) (Fail me.number Memory ∷ []) (abandons_mine me.number (seat_holdings me seat).claims) (one_mine me.number (Fail me.number Memory) refl);
      stands = subst (λ z. StandsFor of.feed of.faults of.ends z t.sits.start) (sym out.1) (fails_stands t.sits.start me.number Memory (claims_of me.number c.claims) c t.stands (λ book numbers stood. tt) tt);
      steady = subst (λ z. IsSteady of.faults z t.sits.start) (sym out.1) (steady_law.fail t.sits.start (closed me.number c) me.number Memory);
    }

    pub refuses_some : (why : WindowStop) (d : CoreValue I) → Refuses me.number why c d → DoesSome d
    refuses_some why d r = ⊎_elim
        (λ (out : RunsOutFirst me.number why c d). record { events = _; does = out_does why d out.1 })
        (λ (stop : (c.stop ≡ Some why) × (d ≡ closed me.number c)). record { events = _; does = closed_does d stop.1 }) r

    pub out_stops : (why : WindowStop) (d : CoreValue I) (later : CoreSeat I) → RunsOut me.number why c d → ((events : List Event) → d.journal ≡ c.journal ++ events → Left events later) → StopsNow me why [] seat later
    out_stops why d later out left =
        let l = left _ (out_does why d out).journal in
        subst (λ why. StopsNow me why [] seat later) (sym out.0) (record { seat_is = l.seat_is; own_seen = l.own_seen; closes = inl l.own_is })

    pub refuses_stops : (why : WindowStop) (d : CoreValue I) (later : CoreSeat I) → Refuses me.number why c d → ((events : List Event) → d.journal ≡ c.journal ++ events → Left events later) → StopsNow me why [] seat later
    refuses_stops why d later r left = ⊎_elim
        (λ (out : RunsOutFirst me.number why c d). out_stops why d later out.1 left)
        (λ (stop : (c.stop ≡ Some why) × (d ≡ closed me.number c)).
        let l = left _ (closed_does d stop.1).journal in
        let other = stopped_by me.number why c.journal (sym (first_is_kept c t.run) ∙ stop.0) (ap first_stop t.own ∙ t.sits.running) in
        record {
          seat_is = l.seat_is;
          own_seen = l.own_seen;
          closes = inr (record {
            seen = c.journal;
            own_seen = entries_own me.number c.journal ∙ t.own;
            seen_is = l.seen_is;
            own_is = l.own_is;
            other = other.other;
            differs = other.differs;
            fails = other.fails;
          });
        }) r
