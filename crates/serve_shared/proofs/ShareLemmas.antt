-- The outputs of a worker, whole or cut short.
use Rattle.std.proofs.Common.{◌≡◌, ℕ, ◌≤◌, Bool, true, false, ◌||◌, List, [], ◌∷◌, ◌++◌, Option, Some, None, Result, Ok, Err, IfSome, sym, refl, ap, ◌∙◌, subst, inl, inr, ⊎_elim, eq-eqb, append_assoc, append-nil}
use Rattle.std.specs.Prelude.{IsSome}
use Rattle.std.proofs.lemmas.List.{append_cancel_left}
use Rattle.fv_plane.specs.Picture.{Picture}
use Rattle.fv_plane.specs.declared.key.Key.{Key}
use Rattle.clip_graph.specs.Plan.{Application, IsPlan}
use Rattle.inst_table.specs.declared.held.Held.{Ghosts}
use Rattle.turn_lock.specs.Entries.{entries_of}
use Rattle.turn_lock.proofs.EntryLemmas.{entries_of-append}
use Rattle.serve_machine.specs.declared.event.Event.{Event}
use Rattle.serve_machine.specs.declared.event.Event.TheVariants.{Take, Deliver}
use Rattle.serve_machine.specs.declared.event.WindowStop.{WindowStop}
use Rattle.serve_machine.specs.Events.{worker_of, IsKey, frame_key, has_got, own_events}
use Rattle.serve_machine.specs.Work.{Production, Deliveries, none, also, CutShort, CutDeliveries, untaken, taken, FailedWork, failed, CutWork, AllPast, abandons, nothing, takes, Delivered, DeliversAll}
use Rattle.serve_machine.proofs.OwnLemmas.{now_got}
use Rattle.serve_machine.specs.Holdings.{Holdings, has_number, holdings_after, own_holdings}
use Rattle.serve_machine.specs.Machine.{first_stop}
use Rattle.serve_machine.proofs.ClosingLemmas.{work_closes}
use Rattle.serve_core.specs.CoreValue.{CoreValue}
use Rattle.serve_core.specs.Stands.{IsRight}
use Rattle.serve_core.specs.Turns.{ForAllOf}
use Rattle.serve_core.specs.WorkerValue.{WorkerValue}
use Rattle.serve_shared.specs.Seats.{CoreSeat, HasWorker, seat_holdings, AtWork, IsSeat, Adds, RightFor}
use Rattle.serve_shared.specs.Shares.{Fails, IsStopped, Closes, StopsNow, StopsWithin, Produced, Worked, Continues, Ends, Delivers}
use Rattle.serve_shared.specs.Turns.{HasTaken, SeesAll, TurnTakes}
use Rattle.serve_shared.proofs.EventLemmas.{entries_own}
use Rattle.serve_shared.proofs.SeatLemmas.{seat_itself, seat_more, same_tag, adds_more, holdings_later, work_later}

-- What closes a worker's work makes it cut work.

module _ {I : Type 0} (plan : List Application) (root w : ℕ) (why : WindowStop) (own closing : List Event) (later : CoreSeat I) (own_seen : entries_of worker_of w later.seen ≡ later.own) (cut : CutDeliveries plan root w own closing) where
  closes_own : (s : IsStopped w why own closing later) → own_events w closing ≡ closing
  closes_own s =
      let all : entries_of worker_of w s.seen ++ entries_of worker_of w closing ≡ own ++ closing = sym (entries_of-append worker_of w s.seen closing) ∙ (ap (entries_of worker_of w) (sym s.seen_is) ∙ (own_seen ∙ s.own_is)) in
      sym (entries_own w closing) ∙ append_cancel_left own (entries_of worker_of w closing) closing (ap (λ l. l ++ entries_of worker_of w closing) (sym s.own_seen) ∙ all)

  pub cut_work : Closes w why own closing later → CutWork plan root w why later.seen later.own
  cut_work c = ⊎_elim
      (λ (f : Fails w why own closing later). inl (subst (FailedWork plan root w why) (sym f) (failed cut)))
      (λ (s : IsStopped w why own closing later).
      let before : own_events w s.seen ≡ own = sym (entries_own w s.seen) ∙ s.own_seen in
      let after : own_events w closing ≡ closing = closes_own s in
      inr (record {
        before = s.seen;
        after = closing;
        journal_is = s.seen_is;
        own_is = s.own_is ∙ (λ i. sym before i ++ sym after i);
        cut = subst (λ (z : List Event × List Event). CutDeliveries plan root w z.0 z.1) (λ i. (sym before i, sym after i)) cut;
        other = s.other;
        differs = s.differs;
        fails = s.fails;
      })) c

-- One more output.

deliveries_more : (plan : List Application) (root w : ℕ) (ns : List ℕ) (n : ℕ) (es fs : List Event) → Deliveries plan root w ns es → Production plan w (frame_key root n) fs → Deliveries plan root w (ns ++ n ∷ []) (es ++ Take w n ∷ (fs ++ Deliver w n ∷ []))
deliveries_more plan root w ns n es fs none p = subst (Deliveries plan root w (n ∷ [])) (append-nil (Take w n ∷ (fs ++ Deliver w n ∷ []))) (also p none)
deliveries_more plan root w _ n _ fs (also {n = m} {ns = ns} {es = es} {fs = gs} q r) p =
    subst (Deliveries plan root w (m ∷ (ns ++ n ∷ []))) (sym (append_assoc (Take w m ∷ (es ++ Deliver w m ∷ [])) gs (Take w n ∷ (fs ++ Deliver w n ∷ [])))) (also q (deliveries_more plan root w ns n gs fs r p))

module _ {I : Type 0} (of : Ghosts I) (me : WorkerValue) (seat : CoreSeat I) (work : AtWork me seat) (delivered : IfSome seat.tag (λ s. Delivered me.plan s.fixed.root me.number seat.own)) where
  abbrev start : CoreValue I
  start = work.sits.start

  so_far : Delivered me.plan start.fixed.root me.number seat.own
  so_far = subst (λ o. IfSome o (λ s. Delivered me.plan s.fixed.root me.number seat.own)) work.sits.tag delivered

  nothing_left : seat_holdings me seat ≡ nothing
  nothing_left = work_closes.deliveries me.plan start.fixed.root me.number so_far.outputs seat.own work.sits.is_plan work.sits.window.root so_far.delivered

  for_tag : (P : CoreValue I → Type 0) → P start → IfSome seat.tag P
  for_tag P p = subst (λ o. IfSome o P) (sym work.sits.tag) p

  -- no output was taken

  pub none_left : (later : CoreSeat I) (r : Result (Option Key) WindowStop) → r ≡ Ok None → TurnTakes me seat r later → Ends me seat later (Ok tt)
  none_left later r is turn =
      let s : SeesAll me seat later = subst (λ z. TurnTakes me seat z later) is turn in
      let all = subst (λ o. IfSome o (λ z. first_stop later.seen ≡ None → z.fixed.count ≤ takes later.seen)) work.sits.tag s.all in
      record {
        seat_is = s.adds.seat_is;
        own_seen = s.own_seen;
        worked = for_tag (λ z. DeliversAll me.plan z.fixed.root z.fixed.count me.number later.seen later.own) (record {
          outputs = so_far.outputs;
          delivered = subst (Deliveries me.plan start.fixed.root me.number so_far.outputs) (sym (s.adds.own ∙ append-nil seat.own)) so_far.delivered;
          all = all;
        });
      }

  pub not_taken : (later : CoreSeat I) (why : WindowStop) (r : Result (Option Key) WindowStop) → r ≡ Err why → TurnTakes me seat r later → Ends me seat later (Err why)
  not_taken later why r is turn =
      let s : StopsNow me why [] seat later = subst (λ z. TurnTakes me seat z later) is turn in
      let closes = subst (λ (h : Holdings). Closes me.number why seat.own (abandons me.number h.claims) later) nothing_left s.closes in
      record {
        seat_is = s.seat_is;
        own_seen = s.own_seen;
        worked = for_tag (λ z. CutWork me.plan z.fixed.root me.number why later.seen later.own) (cut_work me.plan start.fixed.root me.number why seat.own [] later s.own_seen (untaken so_far.delivered) closes);
      }

  -- an output was taken

  module _ (k : Key) (mid : CoreSeat I) (r : Result (Option Key) WindowStop) (is : r ≡ Ok (Some k)) (turn : TurnTakes me seat r mid) where
    took : HasTaken me seat k mid
    took = subst (λ z. TurnTakes me seat z mid) is turn

    pub took_key : IsKey me.plan k
    took_key = took.key

    of_root : k ≡ frame_key start.fixed.root k.n
    of_root =
        let root : k.node ≡ start.fixed.root = subst (λ o. IfSome o (λ z. k.node ≡ z.fixed.root)) work.sits.tag took.root in
        λ i. record { node = root i; n = k.n }

    has_taken : seat_holdings me mid ≡ record nothing { outputs = k.n ∷ [] }
    has_taken = holdings_later me (Take me.number k.n ∷ []) seat mid took.adds ∙ ap (λ (h : Holdings). record h { outputs = h.outputs ++ k.n ∷ [] }) nothing_left

    pub took_work : AtWork me mid
    took_work = work_later me (Take me.number k.n ∷ []) seat mid took.adds work refl work.unlent

    pub took_past : AllPast k.node (seat_holdings me mid).claims
    took_past = subst (λ (h : Holdings). AllPast k.node h.claims) (sym has_taken) tt

    pub took_seat : IsSeat seat mid
    took_seat = took.adds.seat_is

    -- and cut short
    pub cut_short : (later : CoreSeat I) (why : WindowStop) → StopsWithin me (CutShort me.plan me.number k) why mid later → Ends me seat later (Err why)
    cut_short later why s =
        let own : mid.own ++ s.done ≡ seat.own ++ Take me.number k.n ∷ s.done = ap (λ l. l ++ s.done) took.adds.own ∙ append_assoc seat.own (Take me.number k.n ∷ []) s.done in
        let closing : s.closing ++ abandons me.number (seat_holdings me mid).claims ≡ s.closing = ap (λ (h : Holdings). s.closing ++ abandons me.number h.claims) has_taken ∙ append-nil s.closing in
        let closes = subst (λ (z : List Event × List Event). Closes me.number why z.0 z.1 later) (λ i. (own i, closing i)) s.closes in
        let cut : CutDeliveries me.plan start.fixed.root me.number (seat.own ++ Take me.number k.n ∷ s.done) s.closing = taken so_far.delivered (subst (λ j. CutShort me.plan me.number j s.done s.closing) of_root s.cut) in
        record {
          seat_is = seat_more seat mid later took.adds.seat_is s.seat_is;
          own_seen = s.own_seen;
          worked = for_tag (λ z. CutWork me.plan z.fixed.root me.number why later.seen later.own) (cut_work me.plan start.fixed.root me.number why (seat.own ++ Take me.number k.n ∷ s.done) s.closing later s.own_seen cut closes);
        }

    -- or produced
    module _ (x : Picture) (next : CoreSeat I) (p : Produced of me mid k x next) where
      closes : holdings_after me.plan (seat_holdings me mid) p.events ≡ seat_holdings me mid
      closes = work_closes.production me.plan me.number k p.events (seat_holdings me mid) work.sits.is_plan took.key.node (record { past = took_past; unlent = ap (λ (h : Holdings). h.leases) has_taken }) p.produced

      still : seat_holdings me next ≡ record nothing { outputs = k.n ∷ [] }
      still = holdings_later me p.events mid next p.adds ∙ (closes ∙ has_taken)

      pub made_work : AtWork me next
      made_work = work_later me p.events mid next p.adds took_work (work_closes.running me.plan me.number k p.events p.produced) (ap (λ (h : Holdings). h.leases) (closes ∙ has_taken))

      pub made_taken : has_number k.n (seat_holdings me next).outputs ≡ true
      made_taken = ap (λ (h : Holdings). has_number k.n h.outputs) still ∙ ap (λ b. b || false) (eq-eqb k.n k.n refl)

      pub made_seat : IsSeat seat next
      made_seat = seat_more seat mid next took.adds.seat_is p.adds.seat_is

      pub made_root : IfSome next.tag (λ z. k.node ≡ z.fixed.root)
      made_root = subst (λ o. IfSome o (λ z. k.node ≡ z.fixed.root)) (sym (same_tag seat next made_seat)) took.root

      pub made_got : has_got me.number k next.own ≡ true
      made_got = ap (has_got me.number k) p.adds.own ∙ now_got me.number k mid.own p.events (work_closes.got me.plan me.number k p.events p.produced)

      pub made_right : RightFor of me.plan next k x
      made_right = subst (λ o. IfSome o (λ z. ForAllOf of.feed of.faults z (λ book numbers. IsRight book me.plan k x))) (sym (same_tag mid next p.adds.seat_is)) p.right

      -- and delivered
      pub delivered_too : (later : CoreSeat I) → Adds (Deliver me.number k.n ∷ []) next later → Continues me seat later
      delivered_too later d =
          let all : Adds (Take me.number k.n ∷ (p.events ++ Deliver me.number k.n ∷ [])) seat later = adds_more (Take me.number k.n ∷ []) (p.events ++ Deliver me.number k.n ∷ []) seat mid later took.adds (adds_more p.events (Deliver me.number k.n ∷ []) mid next later p.adds d) in
          record {
            seat_is = all.seat_is;
            work = work_later me (Deliver me.number k.n ∷ []) next later d made_work refl made_work.unlent;
            delivered = subst (λ o. IfSome o (λ z. Delivered me.plan z.fixed.root me.number later.own)) (sym (same_tag seat later all.seat_is ∙ work.sits.tag)) (record {
              outputs = so_far.outputs ++ k.n ∷ [];
              delivered = subst (Deliveries me.plan start.fixed.root me.number (so_far.outputs ++ k.n ∷ [])) (sym all.own)
                  (deliveries_more me.plan start.fixed.root me.number so_far.outputs k.n seat.own p.events so_far.delivered (subst (λ j. Production me.plan me.number j p.events) of_root p.produced));
            });
          }

-- From the first turn to the last.

module _ {I : Type 0} (me : WorkerValue) (seat : CoreSeat I) where
  pub begins : IsPlan me.plan → IsSome seat.tag → seat.number ≡ me.number → IfSome seat.tag (HasWorker me.plan seat.number) → seat.own ≡ [] → Continues me seat seat
  begins is tagged number window fresh =
      let work = first_work seat.tag refl is tagged number window fresh in record {
        seat_is = seat_itself seat;
        work = work;
        delivered = subst (λ o. IfSome o (λ s. Delivered me.plan s.fixed.root me.number seat.own)) (sym work.sits.tag) (record { outputs = []; delivered = subst (Deliveries me.plan work.sits.start.fixed.root me.number []) (sym fresh) none });
      }
    where
      first_work : (o : Option (CoreValue I)) → seat.tag ≡ o → IsPlan me.plan → IsSome o → seat.number ≡ me.number → IfSome o (HasWorker me.plan seat.number) → seat.own ≡ [] → AtWork me seat
      first_work None e is tagged number window fresh = absurd (cc)
      first_work (Some s) e is tagged number window fresh = record {
        sits = record { is_plan = is; start = s; tag = e; number = number; window = subst (λ n. HasWorker me.plan n s) number window; running = ap first_stop fresh };
        unlent = ap (λ es. (own_holdings me.plan es).leases) fresh;
      }

  module _ (mid : CoreSeat I) (so_far : Continues me seat mid) (later : CoreSeat I) where
    pub continues : (r : Result Bool WindowStop) → r ≡ Ok true → Delivers me mid later r → Continues me seat later
    continues r is d = let c = subst (Delivers me mid later) is d in record { seat_is = seat_more seat mid later so_far.seat_is c.seat_is; work = c.work; delivered = c.delivered }

    ends_since : (z : Result (Unit {0}) WindowStop) → Ends me mid later z → Ends me seat later z
    ends_since z e = record {
      seat_is = seat_more seat mid later so_far.seat_is e.seat_is;
      own_seen = e.own_seen;
      worked = subst (λ o. IfSome o (λ s. Worked me.plan me.number s later.seen later.own z)) (same_tag seat mid so_far.seat_is) e.worked;
    }

    pub ends_well : (r : Result Bool WindowStop) → r ≡ Ok false → Delivers me mid later r → Ends me seat later (Ok tt)
    ends_well r is d = ends_since (Ok tt) (subst (Delivers me mid later) is d)

    pub ends_cut : (r : Result Bool WindowStop) (why : WindowStop) → r ≡ Err why → Delivers me mid later r → Ends me seat later (Err why)
    ends_cut r why is d = ends_since (Err why) (subst (Delivers me mid later) is d)

  -- what is said by the number of the worker is said by that of its seat
  module _ (later : CoreSeat I) (z : Result (Unit {0}) WindowStop) (number : seat.number ≡ me.number) (e : Ends me seat later z) where
    pub own_at : entries_of worker_of seat.number later.seen ≡ later.own
    own_at = ap (λ n. entries_of worker_of n later.seen) number ∙ e.own_seen

    pub worked_at : IfSome seat.tag (λ s. Worked me.plan seat.number s later.seen later.own z)
    worked_at = subst (λ n. IfSome seat.tag (λ s. Worked me.plan n s later.seen later.own z)) (sym number) e.worked
