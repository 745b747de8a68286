-- What each turn needs, what it does to the core, and what it leaves.
use Rattle.std.proofs.Common.{◌≡◌, ℕ, ◌+◌, ◌≤◌, ◌<◌, true, false, List, [], ◌∷◌, ◌++◌, length, Option, Some, None, Result, Ok, Err, IfSome, IfOk, IfErr, OnOk, sym, refl, ap, ◌∙◌, subst, eq-eqb, arith, append-nil}
use Rattle.std.specs.List.{All}
use Rattle.std.proofs.lemmas.List.Elements.{All-nil, All-append}
use Rattle.fv_plane.specs.Picture.{Picture}
use Rattle.fv_plane.specs.declared.key.Key.{Key}
use Rattle.clip_graph.specs.Plan.{application_at, input_keys}
use Rattle.frame_cache.specs.Cached.{at_key, dropped_key}
use Rattle.inst_table.specs.declared.held.Held.{Ghosts}
use Rattle.inst_table.specs.declared.place.Slot.TheVariants.{Leased as LeasedTo}
use Rattle.inst_table.specs.Lent.{Lent}
use Rattle.inst_table.specs.Places.{slot_at}
use Rattle.serve_machine.specs.declared.event.Event.{Event}
use Rattle.serve_machine.specs.declared.event.Event.TheVariants.{Hit as Hits, Claim, Enter, Leave, Evict, Publish, Take, Deliver}
use Rattle.serve_machine.specs.declared.event.WindowStop.{WindowStop}
use Rattle.serve_machine.specs.declared.event.WindowStop.TheVariants.{Memory}
use Rattle.serve_machine.specs.Events.{worker_of, IsKey, has, frame_key, instance_of, has_got, has_got_all}
use Rattle.serve_machine.specs.SerialRun.{eviction}
use Rattle.serve_machine.proofs.OwnLemmas.{is_own}
use Rattle.serve_machine.specs.Machine.{is_by, first_stop}
use Rattle.serve_machine.specs.Holdings.{Holdings, has_number}
use Rattle.serve_machine.proofs.TruthLemmas.{by_there}
use Rattle.serve_core.specs.declared.answers.Ask.TheVariants.{Hit as IsCached, Claimed as IsClaimed}
use Rattle.serve_core.specs.declared.answers.Admitted.TheVariants.{Leased as IsLeased}
use Rattle.serve_core.specs.Calls.{Asked, Admits, after_leave, after_publish, after_deliver, after_fail}
use Rattle.serve_core.specs.CoreValue.{CoreValue}
use Rattle.serve_core.specs.Holds.{claims_at, holds_none}
use Rattle.serve_core.specs.Sources.{shape_at, place_of, opened_at}
use Rattle.serve_core.specs.Stands.{IsRight, Fits}
use Rattle.serve_core.specs.Turns.{HasCount, IsSteady, TurnsAreSteady, ForAllOf, StandsFor, TurnsStand}
use Rattle.serve_core.specs.Workers.{HasOutput}
use Rattle.serve_machine.specs.Work.{takes}
use Rattle.serve_core.specs.WorkerValue.{WorkerValue}
use Rattle.serve_shared.specs.declared.steps.Found.{Found}
use Rattle.serve_shared.specs.declared.steps.Found.TheVariants.{Hit, Claimed, Taken}
use Rattle.serve_shared.specs.declared.steps.Entry.{Entry}
use Rattle.serve_shared.specs.declared.steps.Entry.TheVariants.{Leased, Busy}
use Rattle.serve_shared.specs.Seats.{CoreSeat, seat_holdings, Adds, RightFor}
use Rattle.serve_shared.specs.Steps.{IsRunning, closed, RunsOut, RunsOutFirst, Refuses, Finds, Enters, Takes}
use Rattle.serve_shared.specs.Shares.{StopsNow}
use Rattle.serve_shared.specs.Turns.{IsLent, TurnAsks, TurnEnters, TurnPublishes, SeesAll, TurnTakes}
use Rattle.serve_core.proofs.ClosedLemmas.{workers_tell}
use Rattle.serve_core.proofs.SteadyLemmas.{turns_are_steady}
use Rattle.serve_core.proofs.TurnLemmas.{turns_stand}
use Rattle.serve_shared.proofs.RunLemmas.{first_is_kept}
use Rattle.serve_shared.proofs.TurnLemmas.{one_mine, InTurn, plan_is, told, holdings, running, Does, DoesSome, Left, adds, same_does, out_does, refuses_some, out_stops, refuses_stops}

module _ {I : Type 0} (of : Ghosts I) (me : WorkerValue) (seat : CoreSeat I) (c : CoreValue I) (t : InTurn of me seat c) where
  law : TurnsStand of.feed of.faults of.ends
  law = turns_stand of.feed of.faults of.ends

  steady_law : TurnsAreSteady of.faults
  steady_law = turns_are_steady of.faults

  first_kept : c.stop ≡ first_stop c.journal
  first_kept = first_is_kept c t.run

  abbrev pub Leaves : CoreValue I → CoreSeat I → Type 0
  Leaves d later = (events : List Event) → d.journal ≡ c.journal ++ events → Left of me seat c t events later

  abbrev pub DoesIt : CoreValue I → List Event → Type 0
  DoesIt d events = Does of me seat c t d events

  abbrev pub DoesAny : CoreValue I → Type 0
  DoesAny d = DoesSome of me seat c t d

  pub for_seat : (P : CoreValue I → Type 0) → P t.sits.start → IfSome seat.tag P
  for_seat P p = subst (λ o. IfSome o P) (sym t.sits.tag) p

  -- What the worker has, by a number that is its own.

  has_claim : (k : Key) → has k (seat_holdings me seat).claims ≡ is_by me.number (at_key k c.claims)
  has_claim k = ap (λ (h : Holdings). has k h.claims) (sym (holdings of me seat c t)) ∙ (told of me seat c t).claim k

  module _ (n : ℕ) (same : n ≡ me.number) where
    pub runs : IsRunning n c
    runs = subst (λ m. IsRunning m c) (sym same) (running of me seat c t)

    pub not_claimed : (k : Key) → has k (seat_holdings me seat).claims ≡ false → at_key k c.claims ≡ Some n → ⊥
    not_claimed k none at =
        let bad : false ≡ true = sym none ∙ (has_claim k ∙ (ap (is_by me.number) at ∙ eq-eqb n me.number same)) in
        absurd (cc)

    pub is_claimed : (k : Key) → has k (seat_holdings me seat).claims ≡ true → at_key k c.claims ≡ Some n
    is_claimed k mine = by_there me.number (at_key k c.claims) (sym (has_claim k) ∙ mine) ∙ ap Some (sym same)

    pub on_node : (k : Key) → has k (seat_holdings me seat).claims ≡ true → claims_at n k.node c.claims ≡ true
    on_node k mine = ap (λ m. claims_at m k.node c.claims) same ∙ (told of me seat c t).node k (ap (λ (h : Holdings). has k h.claims) (holdings of me seat c t) ∙ mine)

    pub no_lease : (seat_holdings me seat).leases ≡ [] → holds_none n c.table ≡ true
    no_lease none = ap (λ m. holds_none m c.table) same ∙ (told of me seat c t).idle (ap (λ (h : Holdings). h.leases) (holdings of me seat c t) ∙ none)

  -- A frame is asked for.

  hit_does : (d : CoreValue I) (k : Key) (x : Picture) → Asked c me.number k (IsCached x) d → DoesIt d (Hits me.number k ∷ [])
  hit_does d k x asked = record {
    journal = ap (λ (z : CoreValue I). z.journal) asked.2;
    mine = one_mine me.number (Hits me.number k) refl;
    stands = (law.ask t.sits.start c d me.number k (IsCached x) t.stands asked).0;
    steady = steady_law.ask t.sits.start c d me.number k (IsCached x) t.steady asked;
  }

  hit_right : (d : CoreValue I) (k : Key) (x : Picture) → Asked c me.number k (IsCached x) d → RightFor of me.plan seat k x
  hit_right d k x asked = for_seat (λ s. ForAllOf of.feed of.faults s (λ book numbers. IsRight book me.plan k x))
      (λ book numbers s. subst (λ plan. IsRight book plan k x) t.sits.window.plan_is ((law.ask t.sits.start c d me.number k (IsCached x) t.stands asked).1 book numbers s))

  claim_does : (d : CoreValue I) (k : Key) → Asked c me.number k IsClaimed d → DoesIt d (Claim me.number k ∷ [])
  claim_does d k asked = record {
    journal = ap (λ (z : CoreValue I). z.journal) asked.3;
    mine = one_mine me.number (Claim me.number k) refl;
    stands = (law.ask t.sits.start c d me.number k IsClaimed t.stands asked).0;
    steady = steady_law.ask t.sits.start c d me.number k IsClaimed t.steady asked;
  }

  finds_some : (d : CoreValue I) (k : Key) (r : Result Found WindowStop) → IfOk r (λ f. Finds c me.number k f d) → IfErr r (λ why. Refuses me.number why c d) → DoesAny d
  finds_some d k (Ok (Hit x)) ok err = record { events = _; does = hit_does d k x ok.0 }
  finds_some d k (Ok Claimed) ok err = record { events = _; does = claim_does d k ok }
  finds_some d k (Ok (Taken heard)) ok err = record { events = _; does = same_does of me seat c t d ok.1.3 }
  finds_some d k (Err why) ok err = refuses_some of me seat c t why d err

  finds : (d : CoreValue I) (later : CoreSeat I) (k : Key) (r : Result Found WindowStop) → IfOk r (λ f. Finds c me.number k f d) → IfErr r (λ why. Refuses me.number why c d) → Leaves d later
      → TurnAsks of me seat k r later
  finds d later k (Ok (Hit x)) ok err leaves = record {
    adds = adds of me seat c t _ later (leaves _ (hit_does d k x ok.0).journal);
    shape = ok.1 ∙ ap (λ plan. shape_at plan k.node) (plan_is of me seat c t);
    right = hit_right d k x ok.0;
  }
  finds d later k (Ok Claimed) ok err leaves = adds of me seat c t _ later (leaves _ (claim_does d k ok).journal)
  finds d later k (Ok (Taken heard)) ok err leaves = adds of me seat c t _ later (leaves _ (same_does of me seat c t d ok.1.3).journal)
  finds d later k (Err why) ok err leaves = refuses_stops of me seat c t why d later err leaves

  module _ (d : CoreValue I) (k : Key) (n : ℕ) (same : n ≡ me.number) (r : Result Found WindowStop) (ok : IfOk r (λ f. Finds c n k f d)) (err : IfErr r (λ why. Refuses n why c d)) where
    pub ask_some : DoesAny d
    ask_some = finds_some d k r (subst (λ m. IfOk r (λ f. Finds c m k f d)) same ok) (subst (λ m. IfErr r (λ why. Refuses m why c d)) same err)

    pub ask_ends : (later : CoreSeat I) → Leaves d later → TurnAsks of me seat k r later
    ask_ends later leaves = finds d later k r (subst (λ m. IfOk r (λ f. Finds c m k f d)) same ok) (subst (λ m. IfErr r (λ why. Refuses m why c d)) same err) leaves

  -- Nothing is done.

  pub nothing_some : (d : CoreValue I) → d ≡ c → DoesAny d
  nothing_some d is = record { events = _; does = same_does of me seat c t d is }

  pub nothing_ends : (d : CoreValue I) (later : CoreSeat I) → d ≡ c → Leaves d later → Adds [] seat later
  nothing_ends d later is leaves = adds of me seat c t _ later (leaves _ (same_does of me seat c t d is).journal)

  -- An instance is asked for.

  lent_does : (d : CoreValue I) (i : ℕ) (l : Lent I) → Admits c me.number i (IsLeased l) d → DoesIt d (Enter me.number i (instance_of me.plan me.number i) ∷ [])
  lent_does d i l adm = record {
    journal = ap (λ (z : CoreValue I). z.journal) adm.3 ∙ ap (λ plan. c.journal ++ Enter me.number i (instance_of plan me.number i) ∷ []) (plan_is of me seat c t);
    mine = one_mine me.number (Enter me.number i (instance_of me.plan me.number i)) refl;
    stands = (law.enter t.sits.start c d me.number i (IsLeased l) t.stands first_kept adm).0;
    steady = (steady_law.enter t.sits.start c d me.number i (IsLeased l) t.steady adm).0;
  }

  is_lent : (d : CoreValue I) (i : ℕ) (l : Lent I) → Enters of.holds c me.number i (Leased l) d → IsLent of me seat i l
  is_lent d i l e = record {
    place = e.0.1 ∙ ap (λ plan. place_of plan me.number i) (plan_is of me seat c t);
    source = e.1 ∙ ap (λ plan. opened_at plan i) (plan_is of me seat c t);
    fits = for_seat (λ s. ForAllOf of.feed of.faults s (λ book numbers. Fits of.feed of.faults book numbers me.plan l.place l.value))
        (λ book numbers s. subst (λ plan. Fits of.feed of.faults book numbers plan l.place l.value) t.sits.window.plan_is ((law.enter t.sits.start c d me.number i (IsLeased l) t.stands first_kept e.0).1 book numbers s));
    count = for_seat (λ s. HasCount of.faults s.table l.place l.value) (steady_law.enter t.sits.start c d me.number i (IsLeased l) t.steady e.0).1;
  }

  admits_some : (d : CoreValue I) (i : ℕ) (r : Result (Entry I) WindowStop) → IfOk r (λ e. Enters of.holds c me.number i e d) → IfErr r (λ why. Refuses me.number why c d) → DoesAny d
  admits_some d i (Ok (Leased l)) ok err = record { events = _; does = lent_does d i l ok.0 }
  admits_some d i (Ok (Busy heard)) ok err = record { events = _; does = same_does of me seat c t d ok.1.2 }
  admits_some d i (Err why) ok err = refuses_some of me seat c t why d err

  admits : (d : CoreValue I) (later : CoreSeat I) (i : ℕ) (r : Result (Entry I) WindowStop) → IfOk r (λ e. Enters of.holds c me.number i e d) → IfErr r (λ why. Refuses me.number why c d) → Leaves d later
      → TurnEnters of me seat i r later
  admits d later i (Ok (Leased l)) ok err leaves = record { adds = adds of me seat c t _ later (leaves _ (lent_does d i l ok.0).journal); lent = is_lent d i l ok }
  admits d later i (Ok (Busy heard)) ok err leaves = adds of me seat c t _ later (leaves _ (same_does of me seat c t d ok.1.2).journal)
  admits d later i (Err why) ok err leaves = refuses_stops of me seat c t why d later err leaves

  module _ (d : CoreValue I) (i : ℕ) (n : ℕ) (same : n ≡ me.number) (r : Result (Entry I) WindowStop) (ok : IfOk r (λ e. Enters of.holds c n i e d)) (err : IfErr r (λ why. Refuses n why c d)) where
    pub enter_some : DoesAny d
    enter_some = admits_some d i r (subst (λ m. IfOk r (λ e. Enters of.holds c m i e d)) same ok) (subst (λ m. IfErr r (λ why. Refuses m why c d)) same err)

    pub enter_ends : (later : CoreSeat I) → Leaves d later → TurnEnters of me seat i r later
    enter_ends later leaves = admits d later i r (subst (λ m. IfOk r (λ e. Enters of.holds c m i e d)) same ok) (subst (λ m. IfErr r (λ why. Refuses m why c d)) same err) leaves

  -- A frame is published.

  evicts_mine : (gone : Option Key) → All (λ e. worker_of e ≡ me.number) (eviction me.number gone)
  evicts_mine None = All-nil (λ e. worker_of e ≡ me.number)
  evicts_mine (Some k) = one_mine me.number (Evict me.number k) refl

  right_now : (k : Key) (x : Picture) → RightFor of me.plan seat k x → ForAllOf of.feed of.faults t.sits.start (λ book numbers. IsRight book t.sits.start.fixed.plan k x)
  right_now k x right =
      let here = subst (λ o. IfSome o (λ s. ForAllOf of.feed of.faults s (λ book numbers. IsRight book me.plan k x))) t.sits.tag right in
      λ book numbers s. subst (λ plan. IsRight book plan k x) (sym t.sits.window.plan_is) (here book numbers s)

  put_does : (d : CoreValue I) (k : Key) (x : Picture) → RightFor of me.plan seat k x → d ≡ after_publish c me.number k x → DoesIt d (eviction me.number (dropped_key c.fixed.capacity c.cache) ++ Publish me.number k ∷ [])
  put_does d k x right is = record {
    journal = ap (λ (z : CoreValue I). z.journal) is;
    mine = All-append (λ e. worker_of e ≡ me.number) (eviction me.number (dropped_key c.fixed.capacity c.cache)) (Publish me.number k ∷ []) (evicts_mine (dropped_key c.fixed.capacity c.cache)) (one_mine me.number (Publish me.number k) refl);
    stands = subst (λ z. StandsFor of.feed of.faults of.ends z t.sits.start) (sym is) (law.publish t.sits.start c me.number k x t.stands (right_now k x right));
    steady = subst (λ z. IsSteady of.faults z t.sits.start) (sym is) (steady_law.publish t.sits.start c me.number k x t.steady);
  }

  puts_some : (d : CoreValue I) (k : Key) (x : Picture) (r : Result (Unit {0}) WindowStop) → RightFor of me.plan seat k x → OnOk r (d ≡ after_publish c me.number k x) → IfErr r (λ why. RunsOut me.number why c d) → DoesAny d
  puts_some d k x (Ok u) right ok err = record { events = _; does = put_does d k x right ok }
  puts_some d k x (Err why) right ok err = record { events = _; does = out_does of me seat c t why d err }

  puts : (d : CoreValue I) (later : CoreSeat I) (k : Key) (x : Picture) (r : Result (Unit {0}) WindowStop) → RightFor of me.plan seat k x → OnOk r (d ≡ after_publish c me.number k x) → IfErr r (λ why. RunsOut me.number why c d) → Leaves d later
      → TurnPublishes me seat k r later
  puts d later k x (Ok u) right ok err leaves = record { gone = dropped_key c.fixed.capacity c.cache; adds = adds of me seat c t _ later (leaves _ (put_does d k x right ok).journal) }
  puts d later k x (Err why) right ok err leaves = out_stops of me seat c t why d later err leaves

  module _ (n : ℕ) (same : n ≡ me.number) where
    pub got_inputs : (k : Key) → has_got_all me.number (input_keys me.plan k) seat.own ≡ true → has_got_all n (input_keys c.fixed.plan k) c.journal ≡ true
    got_inputs k got =
        let here : has_got_all me.number (input_keys me.plan k) c.journal ≡ true = sym (is_own.got_all me.number (input_keys me.plan k) c.journal) ∙ (ap (has_got_all me.number (input_keys me.plan k)) t.own ∙ got) in
        (λ i. has_got_all (same i) (input_keys (plan_is of me seat c t i) k) c.journal) ∙ here

    module _ (d : CoreValue I) (k : Key) (x : Picture) (right : RightFor of me.plan seat k x) (r : Result (Unit {0}) WindowStop) (ok : OnOk r (d ≡ after_publish c n k x)) (err : IfErr r (λ why. RunsOut n why c d)) where
      pub publish_some : DoesAny d
      publish_some = puts_some d k x r right (subst (λ m. OnOk r (d ≡ after_publish c m k x)) same ok) (subst (λ m. IfErr r (λ why. RunsOut m why c d)) same err)

      pub publish_ends : (later : CoreSeat I) → Leaves d later → TurnPublishes me seat k r later
      publish_ends later leaves = puts d later k x r right (subst (λ m. OnOk r (d ≡ after_publish c m k x)) same ok) (subst (λ m. IfErr r (λ why. RunsOut m why c d)) same err) leaves

  -- Work is closed as there is no memory.

  module _ (n : ℕ) (same : n ≡ me.number) (d : CoreValue I) (is : d ≡ after_fail (closed n c) n Memory) where
    pub fail_some : DoesAny d
    fail_some = record { events = _; does = out_does of me seat c t Memory d (refl, subst (λ m. d ≡ after_fail (closed m c) m Memory) same is) }

    pub fail_ends : (later : CoreSeat I) → Leaves d later → StopsNow me Memory [] seat later
    fail_ends later leaves = out_stops of me seat c t Memory d later (refl, subst (λ m. d ≡ after_fail (closed m c) m Memory) same is) leaves

  -- An output is taken.

  took_does : (d : CoreValue I) (k : Key) → Takes c me.number (Some k) d → DoesIt d (Take me.number k.n ∷ [])
  took_does d k took = record {
    journal = ap (λ (z : CoreValue I). z.journal) took.0.3;
    mine = one_mine me.number (Take me.number k.n) refl;
    stands = law.take_output t.sits.start c d me.number (Some k.n) t.stands took.0;
    steady = steady_law.take_output t.sits.start c d me.number (Some k.n) t.steady took.0;
  }

  took_key : (d : CoreValue I) (k : Key) → Takes c me.number (Some k) d → IsKey me.plan k
  took_key d k took =
      let at = t.stands.fixed in
      let node : k.node ≡ t.sits.start.fixed.root = took.1 ∙ ap (λ f. f.root) at in
      let number : k.n ≡ t.sits.start.fixed.first + length c.outputs.taken = took.0.2 ∙ ap (λ f. f.first + length c.outputs.taken) at in
      let less : length c.outputs.taken < t.sits.start.fixed.count = subst (λ f. length c.outputs.taken < f.count) at took.0.1 in
      let most = t.sits.window.numbers in record {
        node = subst (λ i. i < length me.plan) (sym node) t.sits.window.root;
        number = subst (λ i. k.n < (application_at me.plan i).info.frames) (sym node) (omega (arith, number, less, most));
      }

  takes_some : (d : CoreValue I) (r : Result (Option Key) WindowStop) → IfOk r (λ k. Takes c me.number k d) → IfErr r (λ why. RunsOutFirst me.number why c d) → DoesAny d
  takes_some d (Ok (Some k)) ok err = record { events = _; does = took_does d k ok }
  takes_some d (Ok None) ok err = record { events = _; does = same_does of me seat c t d ok.1 }
  takes_some d (Err why) ok err = record { events = _; does = out_does of me seat c t why d err.1 }

  sees_all : (d : CoreValue I) (later : CoreSeat I) → Takes c me.number None d → Leaves d later → SeesAll me seat later
  sees_all d later none leaves =
      let l = leaves _ (same_does of me seat c t d none.1).journal in
      let seen : later.seen ≡ c.journal = l.seen_is ∙ append-nil c.journal in record {
        adds = adds of me seat c t _ later l;
        own_seen = l.own_seen;
        all = for_seat (λ s. first_stop later.seen ≡ None → s.fixed.count ≤ takes later.seen) (λ running.
            let all : length c.outputs.taken ≡ c.fixed.count = none.0 (first_kept ∙ (ap first_stop (sym seen) ∙ running)) in
            let taken : length c.outputs.taken ≡ takes c.journal = (workers_tell I).taken c t.run in
            let count : c.fixed.count ≡ t.sits.start.fixed.count = ap (λ f. f.count) t.stands.fixed in
            subst (λ es. t.sits.start.fixed.count ≤ takes es) (sym seen) (omega (arith, all, taken, count)));
      }

  takes_it : (d : CoreValue I) (later : CoreSeat I) (r : Result (Option Key) WindowStop) → IfOk r (λ k. Takes c me.number k d) → IfErr r (λ why. RunsOutFirst me.number why c d) → Leaves d later → TurnTakes me seat r later
  takes_it d later (Ok (Some k)) ok err leaves = record {
    adds = adds of me seat c t _ later (leaves _ (took_does d k ok).journal);
    key = took_key d k ok;
    root = for_seat (λ s. k.node ≡ s.fixed.root) (ok.1 ∙ ap (λ f. f.root) t.stands.fixed);
  }
  takes_it d later (Ok None) ok err leaves = sees_all d later ok leaves
  takes_it d later (Err why) ok err leaves = out_stops of me seat c t why d later err.1 leaves

  module _ (d : CoreValue I) (n : ℕ) (same : n ≡ me.number) (r : Result (Option Key) WindowStop) (ok : IfOk r (λ k. Takes c n k d)) (err : IfErr r (λ why. RunsOutFirst n why c d)) where
    pub take_some : DoesAny d
    take_some = takes_some d r (subst (λ m. IfOk r (λ k. Takes c m k d)) same ok) (subst (λ m. IfErr r (λ why. RunsOutFirst m why c d)) same err)

    pub take_ends : (later : CoreSeat I) → Leaves d later → TurnTakes me seat r later
    take_ends later leaves = takes_it d later r (subst (λ m. IfOk r (λ k. Takes c m k d)) same ok) (subst (λ m. IfErr r (λ why. RunsOutFirst m why c d)) same err) leaves

  -- An output is delivered.

  module _ (n : ℕ) (same : n ≡ me.number) (k : Key) (taken : has_number k.n (seat_holdings me seat).outputs ≡ true) (root : IfSome seat.tag (λ s. k.node ≡ s.fixed.root)) where
    pub has_output : HasOutput c n k.n
    has_output = subst (λ m. HasOutput c m k.n) (sym same) ((told of me seat c t).output k.n (ap (λ (h : Holdings). has_number k.n h.outputs) (holdings of me seat c t) ∙ taken))

    of_root : k.node ≡ c.fixed.root
    of_root = subst (λ o. IfSome o (λ s. k.node ≡ s.fixed.root)) t.sits.tag root ∙ ap (λ f. f.root) (sym t.stands.fixed)

    pub output_key : k ≡ frame_key c.fixed.root k.n
    output_key = λ i. record { node = of_root i; n = k.n }

    pub output_got : has_got me.number k seat.own ≡ true → has_got n (frame_key c.fixed.root k.n) c.journal ≡ true
    output_got got =
        let here : has_got me.number k c.journal ≡ true = sym (is_own.got me.number k c.journal) ∙ (ap (has_got me.number k) t.own ∙ got) in
        (λ i. has_got (same i) (sym output_key i) c.journal) ∙ here

    pub output_shape : (x : Picture) → x.shape ≡ shape_at me.plan k.node → x.shape ≡ shape_at c.fixed.plan c.fixed.root
    output_shape x shape = shape ∙ (λ i. shape_at (sym (plan_is of me seat c t) i) (of_root i))

    delivers_does : (d : CoreValue I) (x : Picture) → RightFor of me.plan seat k x → d ≡ after_deliver c me.number k.n x → DoesIt d (Deliver me.number k.n ∷ [])
    delivers_does d x right is = record {
      journal = ap (λ (z : CoreValue I). z.journal) is;
      mine = one_mine me.number (Deliver me.number k.n) refl;
      stands = subst (λ z. StandsFor of.feed of.faults of.ends z t.sits.start) (sym is) (law.deliver t.sits.start c me.number k.n x t.stands (subst (λ f. f.first ≤ k.n) t.stands.fixed has_output.low)
          (subst (λ j. ForAllOf of.feed of.faults t.sits.start (λ book numbers. IsRight book t.sits.start.fixed.plan j x)) (output_key ∙ ap (λ f. frame_key f.root k.n) t.stands.fixed) (right_now k x right)));
      steady = subst (λ z. IsSteady of.faults z t.sits.start) (sym is) (steady_law.deliver t.sits.start c me.number k.n x t.steady);
    }

    module _ (d : CoreValue I) (x : Picture) (right : RightFor of me.plan seat k x) (is : d ≡ after_deliver c n k.n x) where
      pub deliver_some : DoesAny d
      deliver_some = record { events = _; does = delivers_does d x right (subst (λ m. d ≡ after_deliver c m k.n x) same is) }

      pub deliver_ends : (later : CoreSeat I) → Leaves d later → Adds (Deliver me.number k.n ∷ []) seat later
      deliver_ends later leaves = adds of me seat c t _ later (leaves _ (delivers_does d x right (subst (λ m. d ≡ after_deliver c m k.n x) same is)).journal)

  -- An instance is given back.

  module _ (n : ℕ) (same : n ≡ me.number) (l : Lent I) (out : (seat_holdings me seat).leases ≡ l.place ∷ []) where
    pub is_out : slot_at l.place c.table ≡ Some (LeasedTo n)
    is_out = (told of me seat c t).lease l.place (ap (λ (h : Holdings). h.leases) (holdings of me seat c t) ∙ out) ∙ ap (λ m. Some (LeasedTo m)) (sym same)

    pub source_now : (i : ℕ) → of.holds l.value ≡ opened_at me.plan i → of.holds l.value ≡ opened_at c.fixed.plan i
    source_now i source = source ∙ ap (λ plan. opened_at plan i) (sym (plan_is of me seat c t))

    fits_now : (x : I) → IfSome seat.tag (λ s. ForAllOf of.feed of.faults s (λ book numbers. Fits of.feed of.faults book numbers me.plan l.place x)) → ForAllOf of.feed of.faults t.sits.start (λ book numbers. Fits of.feed of.faults book numbers t.sits.start.fixed.plan l.place x)
    fits_now x fits book numbers s =
        let here = subst (λ o. IfSome o (λ s. ForAllOf of.feed of.faults s (λ book numbers. Fits of.feed of.faults book numbers me.plan l.place x))) t.sits.tag fits in
        subst (λ plan. Fits of.feed of.faults book numbers plan l.place x) (sym t.sits.window.plan_is) (here book numbers s)

    pub back_stands : IfSome seat.tag (λ s. ForAllOf of.feed of.faults s (λ book numbers. Fits of.feed of.faults book numbers me.plan l.place l.value)) → StandsFor of.feed of.faults of.ends (after_leave c n l.place l.value) t.sits.start
    back_stands fits = law.leave t.sits.start c n l.place l.value t.stands is_out (fits_now l.value fits)

    gives_does : (d : CoreValue I) → IsLent of me seat l.place.node l → d ≡ after_leave c n l.place l.value → DoesIt d (Leave me.number l.place.node l.place.instance ∷ [])
    gives_does d lent is = record {
      journal = ap (λ (z : CoreValue I). z.journal) is ∙ ap (λ m. c.journal ++ Leave m l.place.node l.place.instance ∷ []) same;
      mine = one_mine me.number (Leave me.number l.place.node l.place.instance) refl;
      stands = subst (λ z. StandsFor of.feed of.faults of.ends z t.sits.start) (sym is) (back_stands lent.fits);
      steady = subst (λ z. IsSteady of.faults z t.sits.start) (sym is) (steady_law.leave t.sits.start c n l.place l.value t.steady (subst (λ o. IfSome o (λ s. HasCount of.faults s.table l.place l.value)) t.sits.tag lent.count));
    }

    module _ (d : CoreValue I) (lent : IsLent of me seat l.place.node l) (is : d ≡ after_leave c n l.place l.value) where
      pub leave_some : DoesAny d
      leave_some = record { events = _; does = gives_does d lent is }

      pub leave_ends : (later : CoreSeat I) → Leaves d later → Adds (Leave me.number l.place.node l.place.instance ∷ []) seat later
      leave_ends later leaves = adds of me seat c t _ later (leaves _ (gives_does d lent is).journal)
