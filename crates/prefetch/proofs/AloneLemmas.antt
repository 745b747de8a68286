-- Work that is whole is its worker's own, and the window of one worker alone is a run of the machine.
use Rattle.std.proofs.Common.{◌≡◌, ◌≢◌, ℕ, ◌<◌, ◌==◌, true, false, if◌then◌else◌, List, [], ◌∷◌, ◌++◌, length, slice_get, Contains, Option, Some, None, inl, inr, refl, sym, ◌∙◌, subst, arith}
use Rattle.std.specs.Prelude.{All}
use Rattle.std.specs.List.{range_with_len}
use Rattle.std.specs.Map.{keys_of}
use Rattle.std.proofs.lemmas.List.Elements.{All-nil, All-cons, All-append, Contains-append_right}
use mathlib.Core.Logic.{dite}
use native.Mathlib.Decide.{ℕ_discrete}
use Rattle.fv_plane.specs.declared.key.Key.{Key}
use Rattle.fv_plane.specs.Picture.{Picture}
use Rattle.clip_graph.specs.Plan.{Application, IsPlan, input_keys}
use Rattle.turn_lock.proofs.EntryLemmas.{entries_of-own, entries_of-other}
use Rattle.serve_machine.specs.declared.event.Event.{Event}
use Rattle.serve_machine.specs.declared.event.Event.TheVariants.{Hit, Claim, Enter, Leave, Evict, Publish, Abandon, Take, Deliver, Fail}
use Rattle.serve_machine.specs.declared.event.WindowStop.{WindowStop}
use Rattle.serve_machine.specs.Events.{worker_of, mode_at, instance_of, frame_key, own_events, names_source}
use Rattle.serve_machine.specs.SerialRun.{eviction, leases}
use Rattle.serve_machine.specs.Work.{Production, Productions, hit, made, done, more, Deliveries, none, also, CutShort, refused, inside, entered, unpublished, CutInputs, between, within, CutDeliveries, untaken, taken, FailedWork, failed, IsWork}
use Rattle.serve_machine.proofs.SerialLemmas.{serial_is_whole}
use Rattle.serve_core.specs.Calls.{after_begin, after_end}
use Rattle.serve_core.specs.CoreValue.{CoreValue, Fixed}
use Rattle.serve_core.specs.Runs.{IsRun, keys_alone}
use Rattle.serve_shared.proofs.CallerLemmas.{entries_own}
use Rattle.inst_table.specs.declared.place.Place.{Place}
use Rattle.prefetch.specs.Crew.{IsCrewWindow, IsCutCrew}
use Rattle.serve_machine.specs.Journals.{IsCutWindow}
use Rattle.prefetch.specs.SerialWindows.{window_of}
use Rattle.prefetch.proofs.CrewLemmas.{run_check, run_ran, whole_of_run, crew_window}
use Rattle.prefetch.proofs.WorkLemmas.{stopped_by}

-- THE EVENTS OF WHOLE WORK

module _ (plan : List Application) (w : ℕ) where
  abbrev IsMine : Event → Type 0
  IsMine e = worker_of e ≡ w

  one_mine : (e : Event) → worker_of e ≡ w → All IsMine (e ∷ [])
  one_mine e mine = All-cons IsMine e [] mine (All-nil IsMine)

  evictions_mine : (gone : Option Key) → All IsMine (eviction w gone)
  evictions_mine None = All-nil IsMine
  evictions_mine (Some k) = one_mine (Evict w k) refl

  leases_mine : (i : ℕ) → All IsMine (leases plan w i)
  leases_mine i =
      elim (mode_at plan i == 1) as (λ b. All IsMine (if b then [] else Enter w i (instance_of plan w i) ∷ Leave w i (instance_of plan w i) ∷ []))
      [ true ↦ All-nil IsMine | false ↦ All-cons IsMine (Enter w i (instance_of plan w i)) (Leave w i (instance_of plan w i) ∷ []) refl (one_mine (Leave w i (instance_of plan w i)) refl) ]

  mutual
    production_mine : (k : Key) (es : List Event) → Production plan w k es → All IsMine es
    production_mine k es (hit) = one_mine (Hit w k) refl
    production_mine k _ (made {es = es} gone p) =
        let end = eviction w gone ++ Publish w k ∷ [] in
        All-cons IsMine (Claim w k) (es ++ (leases plan w k.node ++ end)) refl
        (All-append IsMine es (leases plan w k.node ++ end) (productions_mine (input_keys plan k) es p)
        (All-append IsMine (leases plan w k.node) end (leases_mine k.node)
        (All-append IsMine (eviction w gone) (Publish w k ∷ []) (evictions_mine gone) (one_mine (Publish w k) refl))))

    productions_mine : (ks : List Key) (es : List Event) → Productions plan w ks es → All IsMine es
    productions_mine ks es (done) = All-nil IsMine
    productions_mine _ _ (more {k = k} {ks = ks} {es = es} {fs = fs} p q) = All-append IsMine es fs (production_mine k es p) (productions_mine ks fs q)

  deliveries_mine : (root : ℕ) (ns : List ℕ) (es : List Event) → Deliveries plan root w ns es → All IsMine es
  deliveries_mine root ns es none = All-nil IsMine
  deliveries_mine root _ _ (also {n = n} {ns = ns} {es = es} {fs = fs} p q) =
      All-append IsMine (Take w n ∷ (es ++ Deliver w n ∷ [])) fs
      (All-cons IsMine (Take w n) (es ++ Deliver w n ∷ []) refl (All-append IsMine es (Deliver w n ∷ []) (production_mine (frame_key root n) es p) (one_mine (Deliver w n) refl)))
      (deliveries_mine root ns fs q)

-- THE EVENTS OF WORK THAT WAS CUT SHORT

module _ (plan : List Application) (w : ℕ) where
  mutual
    short_mine : (k : Key) (es closing : List Event) → CutShort plan w k es closing → All (IsMine plan w) es × All (IsMine plan w) closing
    short_mine k es closing (refused) = (All-nil (IsMine plan w), All-nil (IsMine plan w))
    short_mine k _ _ (inside {es = es} {closing = closing} p) =
        let both = inputs_mine (input_keys plan k) es closing p in (
          All-cons (IsMine plan w) (Claim w k) es refl both.0,
          All-append (IsMine plan w) closing (Abandon w k ∷ []) both.1 (one_mine plan w (Abandon w k) refl),
        )
    short_mine k _ _ (entered {es = es} mode p) =
        let enter = Enter w k.node (instance_of plan w k.node) in
        let leave = Leave w k.node (instance_of plan w k.node) in (
          All-cons (IsMine plan w) (Claim w k) (es ++ enter ∷ []) refl (All-append (IsMine plan w) es (enter ∷ []) (productions_mine plan w (input_keys plan k) es p) (one_mine plan w enter refl)),
          All-cons (IsMine plan w) leave (Abandon w k ∷ []) refl (one_mine plan w (Abandon w k) refl),
        )
    short_mine k _ _ (unpublished {es = es} p) = (
      All-cons (IsMine plan w) (Claim w k) (es ++ leases plan w k.node) refl
          (All-append (IsMine plan w) es (leases plan w k.node) (productions_mine plan w (input_keys plan k) es p) (leases_mine plan w k.node)),
      one_mine plan w (Abandon w k) refl,
    )

    inputs_mine : (all : List Key) (es closing : List Event) → CutInputs plan w all es closing → All (IsMine plan w) es × All (IsMine plan w) closing
    inputs_mine all es _ (between {ks = ks} js is p) = (productions_mine plan w ks es p, All-nil (IsMine plan w))
    inputs_mine all _ _ (within {ks = ks} {j = j} {es = es} {fs = fs} {closing = closing} js is p q) =
        let both = short_mine j fs closing q in
        (All-append (IsMine plan w) es fs (productions_mine plan w ks es p) both.0, both.1)

  cut_mine : (root : ℕ) (es closing : List Event) → CutDeliveries plan root w es closing → All (IsMine plan w) es × All (IsMine plan w) closing
  cut_mine root es _ (untaken {ns = ns} p) = (deliveries_mine plan w root ns es p, All-nil (IsMine plan w))
  cut_mine root _ _ (taken {ns = ns} {es = es} {fs = fs} {closing = closing} {n = n} p q) =
      let both = short_mine (frame_key root n) fs closing q in
      (All-append (IsMine plan w) es (Take w n ∷ fs) (deliveries_mine plan w root ns es p) (All-cons (IsMine plan w) (Take w n) fs refl both.0), both.1)

  failed_mine : (root : ℕ) (why : WindowStop) (es : List Event) → FailedWork plan root w why es → All (IsMine plan w) es
  failed_mine root why _ (failed {done = so_far} {closing = closing} cut) =
      let both = cut_mine root so_far closing cut in
      All-append (IsMine plan w) so_far (closing ++ Fail w why ∷ []) both.0 (All-append (IsMine plan w) closing (Fail w why ∷ []) both.1 (one_mine plan w (Fail w why) refl))

  failed_there : (root : ℕ) (why : WindowStop) (es : List Event) → FailedWork plan root w why es → Contains es (Fail w why)
  failed_there root why _ (failed {done = so_far} {closing = closing} cut) =
      Contains-append_right so_far (closing ++ Fail w why ∷ []) (Fail w why) (Contains-append_right closing (Fail w why ∷ []) (Fail w why) (0, omega arith, refl))

-- where the journal is work of worker 0 that was cut short, the own events of each worker are work
each_fails : (plan : List Application) (root count : ℕ) (why : WindowStop) (es : List Event) → FailedWork plan root 0 why es → (w : ℕ) → IsWork plan root count w es (own_events w es)
each_fails plan root count why es work w =
    let mine = failed_mine plan 0 root why es work in
    dite (ℕ_discrete w 0)
    (λ (is : w ≡ 0).
    let own : own_events 0 es ≡ es = sym (entries_own 0 es) ∙ entries_of-own worker_of 0 es mine in
    subst (λ v. IsWork plan root count v es (own_events v es)) (sym is) (inr (why, inl (subst (FailedWork plan root 0 why) (sym own) work))))
    (λ (other : w ≢ 0).
    let own : own_events w es ≡ [] = sym (entries_own w es) ∙ entries_of-other worker_of 0 w es mine other in
    inl (record { outputs = []; delivered = subst (Deliveries plan root w []) (sym own) none; all = λ running. absurd (stopped_by es 0 why (failed_there plan 0 root why es work) running) }))

-- where the journal is whole work of worker 0, so are the own events of each worker
each_delivers : (plan : List Application) (root : ℕ) (ns : List ℕ) (es : List Event) → Deliveries plan root 0 ns es → (w : ℕ) → (outputs : List ℕ) × Deliveries plan root w outputs (own_events w es)
each_delivers plan root ns es work w =
    let mine = deliveries_mine plan 0 root ns es work in
    dite (ℕ_discrete w 0)
    (λ (is : w ≡ 0).
    let own : own_events 0 es ≡ es = sym (entries_own 0 es) ∙ entries_of-own worker_of 0 es mine in
    subst (λ v. (outputs : List ℕ) × Deliveries plan root v outputs (own_events v es)) (sym is) (ns, subst (Deliveries plan root 0 ns) (sym own) work))
    (λ (other : w ≢ 0).
    let own : own_events w es ≡ [] = sym (entries_own w es) ∙ entries_of-other worker_of 0 w es mine other in
    ([], subst (Deliveries plan root w []) (sym own) none))

-- THE WINDOW

module _ {I : Type 0} (c c2 d : CoreValue I) (first count : ℕ) (plan : IsPlan c.fixed.plan) (root : c.fixed.root < length c.fixed.plan) (fixed : c2.fixed ≡ (after_begin c first count).fixed) (places : keys_of c2.table ≡ keys_of c.table)
    (ends_it : d ≡ after_end c2) (run : IsRun c2) where
  -- a window that made the events of the serial run is one of a crew
  pub alone_window : (events : List Event) → events ≡ c2.journal → events ≡ (window_of c first count).events → c2.stop ≡ None → ((j : ℕ) → j < count → (x : Picture) × (slice_get c2.outputs.frames j ≡ Some (Some x)))
      → IsCrewWindow c first count events d
  alone_window events journal serial running delivered =
      let work : Deliveries c.fixed.plan c.fixed.root 0 (range_with_len first count) c2.journal
      = subst (Deliveries c.fixed.plan c.fixed.root 0 (range_with_len first count)) (sym serial ∙ journal) (serial_is_whole.window c.fixed.plan c.fixed.root c.fixed.capacity (keys_of c.cache) first count plan root) in
      let each = each_delivers c.fixed.plan c.fixed.root (range_with_len first count) c2.journal work in
      crew_window c c2 d first count fixed places ends_it run events journal
      (whole_of_run c2 run running (λ j less. delivered j (subst (λ (z : Fixed). j < z.count) fixed less))
      (λ w less. subst (λ (z : Fixed). (outputs : List ℕ) × Deliveries z.plan z.root w outputs (own_events w c2.journal)) (sym fixed) (each w)))

  -- and one that was cut short is one of a crew that was
  pub alone_cut : (events : List Event) → events ≡ c2.journal → (why : WindowStop) → FailedWork c.fixed.plan c.fixed.root 0 why events → c2.stop ≡ Some why → names_source c.fixed.plan why ≡ true → IsCutCrew c first count why events
  alone_cut events journal why cut stopped named =
      let there : IsCutWindow c2.fixed.plan c2.fixed.root c2.fixed.capacity c2.fixed.workers (keys_of c2.table) why (keys_alone c2.fixed.opening) (record { first = c2.fixed.first; count = c2.fixed.count; events = c2.journal })
      = record {
        state = run_check c2 run;
        runs = run_ran c2 run;
        stopped = stopped;
        named = subst (λ (z : Fixed). names_source z.plan why ≡ true) (sym fixed) named;
        work = λ w less. subst (λ (z : Fixed). IsWork z.plan z.root z.count w c2.journal (own_events w c2.journal)) (sym fixed) (each_fails c.fixed.plan c.fixed.root count why c2.journal (subst (FailedWork c.fixed.plan c.fixed.root 0 why) journal cut) w);
      } in
      let here = subst (λ (z : Fixed × List Place). IsCutWindow z.0.plan z.0.root z.0.capacity z.0.workers z.1 why (keys_alone z.0.opening) (record { first = z.0.first; count = z.0.count; events = c2.journal })) (λ i. (fixed i, places i)) there in
      subst (λ es. IsCutWindow c.fixed.plan c.fixed.root c.fixed.capacity c.fixed.workers (keys_of c.table) why (keys_alone (keys_of c.cache)) (record { first = first; count = count; events = es })) (sym journal) here
