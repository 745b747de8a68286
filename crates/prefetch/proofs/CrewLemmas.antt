-- A window by several workers, from its beginning to its end.
use Rattle.std.proofs.Common.{◌≡◌, ℕ, zero, suc, ◌+◌, ◌<◌, ◌≤◌, false, List, [], ◌∷◌, ◌++◌, length, map, slice_get, slice_index_or, All, Contains, Option, Some, None, IfSome, sym, refl, ap, ◌∙◌, subst, inl, inr, ⊎_elim, arith, ne_eqb}
use Rattle.std.specs.Prelude.{replicate, option_map}
use Rattle.std.specs.Map.{keys_of}
use Rattle.std.proofs.lemmas.List.Elements.{All-contains}
use Rattle.std.proofs.lemmas.Option.{slice_get-map}
use mathlib.Core.Logic.{dite}
use native.Mathlib.Decide.{ℕ_discrete, dec_le}
use Rattle.fv_plane.specs.declared.key.Key.{Key}
use Rattle.fv_plane.specs.Picture.{Picture}
use Rattle.clip_graph.specs.Plan.{Application, IsPlan}
use Rattle.inst_table.specs.declared.held.Held.{Ghosts as HeldGhosts}
use Rattle.inst_table.specs.declared.place.Place.{Place}
use Rattle.inst_table.specs.Places.{PlacesDiffer}
use Rattle.turn_lock.specs.declared.view.Ended.{Ended}
use Rattle.turn_lock.specs.Entries.{IsPrefix, entries_of}
use Rattle.turn_lock.specs.SeatView.{TableId, first_seat, HasEnded, HasAllNumbers}
use Rattle.serve_machine.specs.declared.event.Event.{Event}
use Rattle.serve_machine.specs.declared.event.Event.TheVariants.{Fail}
use Rattle.serve_machine.specs.declared.event.WindowStop.{WindowStop}
use Rattle.serve_machine.specs.declared.event.WindowStop.TheVariants.{Read, Changed, Memory}
use Rattle.serve_machine.specs.Events.{worker_of, own_events}
use Rattle.serve_machine.specs.Work.{Deliveries, none, untaken, failed, DeliversAll, IsWork}
use Rattle.serve_machine.specs.Law.{bare, keys_machine}
use Rattle.serve_machine.specs.Machine.{replay, State, first_stop}
use Rattle.serve_machine.specs.Journals.{after_window, crew_machine, IsWholeWindow, IsCutWindow}
use Rattle.serve_core.specs.declared.answers.Finished.{Finished}
use Rattle.serve_core.specs.Calls.{after_begin, after_end, after_fail}
use Rattle.serve_core.specs.CoreValue.{CoreValue, Fixed}
use Rattle.serve_core.specs.Kept.{leases_out}
use Rattle.serve_core.specs.Runs.{keys_alone, opening_of, state_of, IsRun}
use Rattle.serve_core.specs.Sources.{shape_at, HoldTheirs}
use Rattle.serve_core.specs.Stands.{Book, Stands, StopFits, EndShows}
use Rattle.serve_core.specs.Turns.{IsSteady, TurnsAreSteady, StandsFor}
use Rattle.serve_core.specs.Workers.{told_holdings}
use Rattle.serve_core.proofs.ClosedLemmas.{workers_tell}
use Rattle.serve_core.proofs.Standing.{calls_stand}
use Rattle.serve_core.proofs.StepLemmas.{keys_again}
use Rattle.serve_core.proofs.SteadyLemmas.{turns_are_steady}
use Rattle.serve_shared.specs.Seats.{CoreSeat, HasWorker}
use Rattle.serve_core.specs.Tables.{AllFree, held_in, counts_in}
use Rattle.serve_core.proofs.Tables.{all_free}
use Rattle.prefetch.specs.Crew.{HasWorked, MayGather, IsGathered, IsNew, WorkIsDone, IsCrewWindow, IsCutCrew}
use Rattle.prefetch.specs.Windows.{WindowEnds, frames_at, Stays}
use Rattle.serve_shared.proofs.CallerLemmas.{entries_own, work_grows}
use Rattle.prefetch.proofs.HeldLemmas.{held_again, counts_again}
use Rattle.prefetch.proofs.WindowLemmas.{ended_stays, window_delivered, window_stopped}
use Rattle.prefetch.proofs.WorkLemmas.{first_or_later, failure_of, read_by, changed_by, named_by, whole_work, work_closed, work_delivered}

-- WITHOUT A WORKER

module _ {I : Type 0} (of : HeldGhosts I) where
  not_begun : (s : CoreValue I) → IsNew s → WorkIsDone of s (after_fail s 0 Memory)
  not_begun s fresh =
      let journal : s.journal ++ Fail 0 Memory ∷ [] ≡ Fail 0 Memory ∷ [] = ap (λ es. es ++ Fail 0 Memory ∷ []) fresh.empty in
      record {
        stands = record {
          fixed = refl;
          places = refl;
          right = λ book numbers v. (calls_stand of.feed of.faults).fail book numbers s 0 Memory v tt;
          ended = λ w why h. none_shown w why (subst (λ es. Contains es (Fail w why)) journal h);
        };
        steady = let law : TurnsAreSteady of.faults = turns_are_steady of.faults in law.fail s s 0 Memory;
        work = λ w less. subst (λ es. IsWork s.fixed.plan s.fixed.root s.fixed.count w es (own_events w es)) (sym journal) (dite (ℕ_discrete 0 w)
            (λ e. subst (λ v. IsWork s.fixed.plan s.fixed.root s.fixed.count v (Fail 0 Memory ∷ []) (own_events v (Fail 0 Memory ∷ []))) e (inr (Memory, inl (failed (untaken none)))))
            (λ ne. rw (ne_eqb 0 w ne) (inl (record { outputs = []; delivered = none; all = λ bad. absurd (cc) }))));
      }
    where
      none_shown : (w : ℕ) (why : WindowStop) → Contains (Fail 0 Memory ∷ []) (Fail w why) → EndShows of.ends s.table why
      none_shown w why h = ⊎_elim
          (λ (is : Fail 0 Memory ≡ Fail w why). let same : Memory ≡ why = cc in subst (EndShows of.ends s.table) same tt)
          (λ (rest : Contains [] (Fail w why)). let less = rest.1 in absurd (omega arith)) (first_or_later (Fail 0 Memory) [] (Fail w why) h)

  pub without_workers : (s c : CoreValue I) → IsNew s → c ≡ after_fail s 0 Memory → WorkIsDone of s c
  without_workers s c fresh is = subst (WorkIsDone of s) (sym is) (not_begun s fresh)

-- THE SEATS

false_first : (n : ℕ) → 0 < n → slice_get (replicate n false) 0 ≡ Some false
false_first zero less = absurd (omega arith)
false_first (suc n) less = refl

pub begun_new : {I : Type 0} (c c1 : CoreValue I) (first count : ℕ) → c.fixed.root < length c.fixed.plan → 0 < c.fixed.workers → 0 < count → first + count ≤ frames_at c.fixed.plan c.fixed.root → c1 ≡ after_begin c first count → IsNew c1
begun_new c c1 first count root several some numbers is = subst IsNew (sym is) (record {
  empty = refl;
  unfailed = false_first c.fixed.workers several;
  workers = λ w less. record { plan_is = refl; worker = less; window = some; root = root; numbers = numbers };
})

pub first_may : {I : Type 0} (plan : List Application) (lock : TableId) (limit : ℕ) (s : CoreValue I) (others : ℕ) → s.fixed.plan ≡ plan → IsNew s → 1 + others ≤ s.fixed.workers → 1 + others < limit → MayGather plan lock others (first_seat lock limit s)
first_may plan lock limit s others same fresh most room = record {
  lock_is = refl;
  window = λ w less. subst (λ pl. HasWorker pl w s) same (fresh.workers w (omega arith));
  number = omega arith;
  room = room;
  fresh = refl;
}

module _ {I : Type 0} (plan : List Application) (lock : TableId) (limit : ℕ) (s : CoreValue I) (others : ℕ) (later : CoreSeat I) (gathered : IsGathered plan others (first_seat lock limit s) later) where
  -- each number before the last was that of a worker
  pub each_worked : (n : ℕ) → n < later.number → HasWorked plan s.fixed.root s.fixed.count n later.ended
  each_worked zero less = gathered.work.first
  each_worked (suc n) less = gathered.work.rest (suc n) (omega arith) less

  pub all_numbers : 0 < limit → HasAllNumbers later
  all_numbers some =
      let next = gathered.next in
      let same = gathered.limit in (
        omega arith,
        λ n less. dite (ℕ_discrete n later.number) (λ e. inl e) (λ ne. let one = each_worked n (omega arith) in inr (numbered later.ended one.one n one.there one.number)),
      )
    where
      go : (ended : List (Ended Event)) (x : Ended Event) (k : ℕ) → k < length ended → slice_index_or ended k x ≡ x → (k < length (map (λ y. y.number) ended)) × (slice_index_or (map (λ y. y.number) ended) k x.number ≡ x.number)
      go [] x k less is = absurd (omega arith)
      go (y ∷ ys) x zero less is = (omega arith, ap (λ z. z.number) is)
      go (y ∷ ys) x (suc k) less is = let ih = go ys x k (omega arith) is in let shorter = ih.0 in (omega arith, ih.1)

      numbered : (ended : List (Ended Event)) (x : Ended Event) (n : ℕ) → Contains ended x → x.number ≡ n → HasEnded n ended
      numbered ended x n h is = let at = go ended x h.0 h.1 h.2 in subst (λ m. HasEnded m ended) is (h.0, at.0, at.1)

  -- so in the closed core the events of every number are work
  module _ (list : List Event) (seen : All (λ x. IsPrefix x.seen list) later.ended) (same : All (λ x. entries_of worker_of x.number list ≡ x.entries) later.ended) (own : entries_of worker_of later.number list ≡ later.own)
      (none' : (n : ℕ) → later.next ≤ n → entries_of worker_of n list ≡ []) where
    of_worker : (n : ℕ) → n < later.number → IsWork plan s.fixed.root s.fixed.count n list (own_events n list)
    of_worker n less =
        let h = each_worked n less in
        let at : entries_of worker_of h.one.number list ≡ h.one.entries = All-contains (λ x. entries_of worker_of x.number list ≡ x.entries) later.ended h.one same h.there in
        let own_is : own_events n list ≡ h.one.entries = sym (entries_own n list) ∙ subst (λ m. entries_of worker_of m list ≡ h.one.entries) h.number at in
        subst (IsWork plan s.fixed.root s.fixed.count n list) (sym own_is) (work_grows plan s.fixed.root s.fixed.count n h.one.seen h.one.entries list (All-contains (λ x. IsPrefix x.seen list) later.ended h.one seen h.there) own_is h.work)

    of_none : (n : ℕ) → entries_of worker_of n list ≡ [] → IsWork plan s.fixed.root s.fixed.count n list (own_events n list)
    of_none n empty =
        let own_is : own_events n list ≡ [] = sym (entries_own n list) ∙ empty in
        let number = gathered.number in
        inl (record {
          outputs = [];
          delivered = subst (Deliveries plan s.fixed.root n []) (sym own_is) none;
          all = λ running. (whole_work plan s.fixed.root s.fixed.count 0 list (own_events 0 list) refl running (of_worker 0 (omega arith))).all running;
        })

    of_each : (n : ℕ) → IsWork plan s.fixed.root s.fixed.count n list (own_events n list)
    of_each n = dite (dec_le (suc n) later.number) (λ less. of_worker n less)
        (λ more. dite (ℕ_discrete n later.number) (λ e. of_none n (subst (λ m. entries_of worker_of m list ≡ []) (sym e) (own ∙ gathered.own))) (λ ne. of_none n (none' n (let next = gathered.next in omega arith))))

pub closed_done : {I : Type 0} (of : HeldGhosts I) (lock : TableId) (limit : ℕ) (s c : CoreValue I) (others : ℕ) (later : CoreSeat I) → IsGathered s.fixed.plan others (first_seat lock limit s) later
    → All (λ x. IsPrefix x.seen c.journal) later.ended → All (λ x. entries_of worker_of x.number c.journal ≡ x.entries) later.ended → entries_of worker_of later.number c.journal ≡ later.own
    → ((n : ℕ) → later.next ≤ n → entries_of worker_of n c.journal ≡ []) → IfSome later.tag (λ z. StandsFor of.feed of.faults of.ends c z × IsSteady of.faults c z) → WorkIsDone of s c
closed_done of lock limit s c others later gathered seen same own none' stands =
    let both : StandsFor of.feed of.faults of.ends c s × IsSteady of.faults c s = subst (λ tag. IfSome tag (λ z. StandsFor of.feed of.faults of.ends c z × IsSteady of.faults c z)) gathered.tag stands in record {
      stands = both.0;
      steady = both.1;
      work = λ w less. of_each s.fixed.plan lock limit s others later gathered c.journal seen same own none' w;
    }

-- THE WINDOW

keys_back : (ks : List Key) → keys_of (keys_alone ks) ≡ ks
keys_back [] = refl
keys_back (k ∷ ks) = ap (λ l. k ∷ l) (keys_back ks)

there_bare : (o : Option (Option Picture)) (x : Picture) → o ≡ Some (Some x) → option_map (option_map bare) o ≡ Some (Some tt)
there_bare o x is = subst (λ z. option_map (option_map bare) z ≡ Some (Some tt)) (sym is) refl

-- the run of a window
module _ {I : Type 0} (c2 : CoreValue I) (run : IsRun c2) where
  abbrev pub run_check : State (Unit {0})
  run_check = state_of c2 run.got run.entered

  pub run_ran : after_window (crew_machine c2.fixed.plan c2.fixed.root c2.fixed.capacity c2.fixed.workers (keys_of c2.table)) (keys_of c2.table) (keys_alone c2.fixed.opening) (record { first = c2.fixed.first; count = c2.fixed.count; events = c2.journal }) ≡ Some run_check
  run_ran = ap (λ ks. replay (keys_machine (record c2.fixed { opening = ks })) (opening_of c2) c2.journal) (keys_back c2.fixed.opening) ∙ run.runs

  -- it is whole where no stop is kept, each output is delivered, and each worker's work is whole
  pub whole_of_run : c2.stop ≡ None → ((j : ℕ) → j < c2.fixed.count → (x : Picture) × (slice_get c2.outputs.frames j ≡ Some (Some x)))
      → ((w : ℕ) → w < c2.fixed.workers → (outputs : List ℕ) × Deliveries c2.fixed.plan c2.fixed.root w outputs (own_events w c2.journal))
      → IsWholeWindow c2.fixed.plan c2.fixed.root c2.fixed.capacity c2.fixed.workers (keys_of c2.table) (keys_alone c2.fixed.opening) (record { first = c2.fixed.first; count = c2.fixed.count; events = c2.journal }) run_check
  whole_of_run running delivered work = record {
    runs = run_ran;
    running = running;
    delivered = λ j less. let one = delivered j less in slice_get-map (option_map bare) c2.outputs.frames j ∙ there_bare (slice_get c2.outputs.frames j) one.0 one.1;
    work = work;
  }

-- and then it is a window of the core with which it began
pub crew_window : {I : Type 0} (c c2 d : CoreValue I) (first count : ℕ) → c2.fixed ≡ (after_begin c first count).fixed → keys_of c2.table ≡ keys_of c.table → d ≡ after_end c2 → (run : IsRun c2) (events : List Event) → events ≡ c2.journal
    → IsWholeWindow c2.fixed.plan c2.fixed.root c2.fixed.capacity c2.fixed.workers (keys_of c2.table) (keys_alone c2.fixed.opening) (record { first = c2.fixed.first; count = c2.fixed.count; events = c2.journal }) (run_check c2 run)
    → IsCrewWindow c first count events d
crew_window {I = I} c c2 d first count fixed places ends_it run events journal whole =
    let there = subst (λ (z : Fixed × List Place). IsWholeWindow z.0.plan z.0.root z.0.capacity z.0.workers z.1 (keys_alone z.0.opening) (record { first = z.0.first; count = z.0.count; events = c2.journal }) (run_check c2 run)) (λ i. (fixed i, places i)) whole in
    record {
      state = run_check c2 run;
      whole = subst (λ es. IsWholeWindow c.fixed.plan c.fixed.root c.fixed.capacity c.fixed.workers (keys_of c.table) (keys_alone (keys_of c.cache)) (record { first = first; count = count; events = es }) (run_check c2 run)) (sym journal) there;
      left = sym (keys_again c2.cache) ∙ ap (λ (z : CoreValue I). keys_alone (keys_of z.cache)) (sym ends_it);
      places = ap (λ (z : CoreValue I). keys_of z.table) ends_it ∙ places;
    }

module _ {I : Type 0} (of : HeldGhosts I) (c c1 c2 : CoreValue I) (first count : ℕ) (plan : IsPlan c.fixed.plan) (root : c.fixed.root < length c.fixed.plan)
    (begins : c1 ≡ after_begin c first count) (worked : WorkIsDone of c1 c2) (run : IsRun c2) where
  fixed : c2.fixed ≡ (after_begin c first count).fixed
  fixed = worked.stands.fixed ∙ ap (λ (z : CoreValue I). z.fixed) begins

  plan2 : IsPlan c2.fixed.plan
  plan2 = subst (λ (z : Fixed). IsPlan z.plan) (sym fixed) plan

  root2 : c2.fixed.root < length c2.fixed.plan
  root2 = subst (λ (z : Fixed). z.root < length z.plan) (sym fixed) root

  each_work : (w : ℕ) → w < c2.fixed.workers → IsWork c2.fixed.plan c2.fixed.root c2.fixed.count w c2.journal (own_events w c2.journal)
  each_work = subst (λ (z : Fixed). (w : ℕ) → w < z.workers → IsWork z.plan z.root z.count w c2.journal (own_events w c2.journal)) (sym worked.stands.fixed) worked.work

  closed : (w : ℕ) → w < c2.fixed.workers → ((told_holdings c2 w).claims ≡ []) × ((told_holdings c2 w).leases ≡ [])
  closed w less = work_closed c2.fixed.plan c2.fixed.root w plan2 root2 c2.fixed.count c2.journal (own_events w c2.journal) (each_work w less)

  -- nothing is open
  pub none_open : (c2.claims ≡ []) × (leases_out c2.table ≡ 0)
  none_open = ((workers_tell I).closed_claims c2 run (λ w less. (closed w less).0), (workers_tell I).closed_leases c2 run (λ w less. (closed w less).1))

  places : keys_of c2.table ≡ keys_of c.table
  places = worked.stands.places ∙ ap (λ (z : CoreValue I). keys_of z.table) begins

  module _ (stopped : c2.stop ≡ first_stop c2.journal) where
    module _ (running : first_stop c2.journal ≡ None) (some : 0 < c2.fixed.workers) where
      each_whole : (w : ℕ) → w < c2.fixed.workers → DeliversAll c2.fixed.plan c2.fixed.root c2.fixed.count w c2.journal (own_events w c2.journal)
      each_whole w less = whole_work c2.fixed.plan c2.fixed.root c2.fixed.count w c2.journal (own_events w c2.journal) refl running (each_work w less)

      delivered : (j : ℕ) → j < c2.fixed.count → (x : Picture) × (slice_get c2.outputs.frames j ≡ Some (Some x))
      delivered j less =
          let all = (each_whole 0 some).all running in
          let taken = (workers_tell I).taken c2 run in
          (workers_tell I).delivered c2 run (λ w low. work_delivered c2.fixed.plan c2.fixed.root w plan2 root2 c2.fixed.count c2.journal (own_events w c2.journal) (each_whole w low)) j (omega arith)

      whole_run : IsWholeWindow c2.fixed.plan c2.fixed.root c2.fixed.capacity c2.fixed.workers (keys_of c2.table) (keys_alone c2.fixed.opening) (record { first = c2.fixed.first; count = c2.fixed.count; events = c2.journal }) (run_check c2 run)
      whole_run = whole_of_run c2 run (stopped ∙ running) delivered (λ w less. let d = each_whole w less in (d.outputs, d.delivered))

    cut_run : (why : WindowStop) → first_stop c2.journal ≡ Some why → IsCutWindow c2.fixed.plan c2.fixed.root c2.fixed.capacity c2.fixed.workers (keys_of c2.table) why (keys_alone c2.fixed.opening) (record { first = c2.fixed.first; count = c2.fixed.count; events = c2.journal })
    cut_run why at =
        let f = failure_of c2.journal why at in
        record { state = run_check c2 run; runs = run_ran c2 run; stopped = stopped ∙ at; named = named_by (keys_machine c2.fixed) (opening_of c2) (run_check c2 run) c2.journal f.0 why run.runs f.1; work = each_work }

  fits : (book : Book) (numbers : List ℕ) (w : ℕ) (why : WindowStop) → Contains c2.journal (Fail w why) → Stands of.feed of.faults book numbers c2 → StopFits of.feed of.faults book numbers c2.fixed.plan c2.table why
  fits book numbers w (Read i) h v = v.failed i (read_by c2.journal w i h)
  fits book numbers w (Changed i frame want got) h v = v.changed (changed_by c2.journal w i frame want got h)
  fits book numbers w Memory h v = tt

  module _ (d : CoreValue I) (ends_it : d ≡ after_end c2) (finished : Finished) (frames : finished.frames.items ≡ c2.outputs.frames) (events : finished.events.items ≡ c2.journal) (stop : finished.stop ≡ c2.stop) (stopped : finished.stop ≡ first_stop c2.journal)
      (size : length finished.frames.items ≡ c2.fixed.count) (shapes : (j : ℕ) (x : Picture) → slice_get finished.frames.items j ≡ Some (Some x) → x.shape ≡ shape_at c2.fixed.plan c2.fixed.root)
      (some : 0 < c.fixed.workers) (unlent : leases_out c.table ≡ 0) (differ : PlacesDiffer c.table) (theirs : HoldTheirs of.holds c.fixed.plan c.table) (differ' : PlacesDiffer c2.table) (theirs' : HoldTheirs of.holds c2.fixed.plan c2.table) where
    stays : Stays of.holds c d
    stays =
        let free = all_free c2.table none_open.1 in
        let held = held_again of.holds c.fixed.plan c.table c2.table places (all_free c.table unlent) differ theirs free differ' (subst (λ (z : Fixed). HoldTheirs of.holds z.plan c2.table) fixed theirs') in
        ended_stays of c c1 c2 d first count plan begins worked.stands.fixed ends_it none_open.0 free (held ∙ sym (ap (λ (z : CoreValue I). held_in of.holds z.table) begins))

    steady : c2.stop ≡ None → counts_in of.faults c2.table ≡ counts_in of.faults c1.table
    steady running =
        counts_again of.faults c1.table c2.table worked.stands.places (subst (λ (z : CoreValue I). AllFree z.table) (sym begins) (all_free c.table unlent)) (subst (λ (z : CoreValue I). PlacesDiffer z.table) (sym begins) differ)
        (all_free c2.table none_open.1) differ' (worked.steady.counts running)

    ends_by : (o : Option WindowStop) → finished.stop ≡ o → WindowEnds of c (IsCrewWindow c first count) (IsCutCrew c first count) first count finished o d
    ends_by None is =
        let running = sym stopped ∙ is in
        let several : 0 < c2.fixed.workers = subst (λ (z : Fixed). 0 < z.workers) (sym fixed) some in (
          window_delivered of c c1 c2 d first count plan begins worked.stands.fixed ends_it finished stays worked.stands.right frames size shapes (steady (sym stop ∙ is)) (λ j less. delivered (sym stop ∙ stopped) running several j (subst (λ (z : Fixed). j < z.count) (sym fixed) less)),
          crew_window c c2 d first count fixed places ends_it run finished.events.items events (whole_run (sym stop ∙ stopped) running several),
        )
    ends_by (Some why) is =
        let at = sym stopped ∙ is in
        let f = failure_of c2.journal why at in
        let cut = subst (λ (z : Fixed × List Place). IsCutWindow z.0.plan z.0.root z.0.capacity z.0.workers z.1 why (keys_alone z.0.opening) (record { first = z.0.first; count = z.0.count; events = c2.journal })) (λ i. (fixed i, places i)) (cut_run (sym stop ∙ stopped) why at) in (
          window_stopped of c c1 c2 d first count plan begins worked.stands.fixed ends_it why stays
              (λ book numbers s. let v = worked.stands.right book numbers s in (v, subst (λ (z : Fixed). StopFits of.feed of.faults book numbers z.plan c2.table why) fixed (fits book numbers f.0 why f.1 v))) (worked.stands.ended f.0 why f.1),
          subst (λ es. IsCutWindow c.fixed.plan c.fixed.root c.fixed.capacity c.fixed.workers (keys_of c.table) why (keys_alone (keys_of c.cache)) (record { first = first; count = count; events = es })) (sym events) cut,
        )

    pub crew_ends : WindowEnds of c (IsCrewWindow c first count) (IsCutCrew c first count) first count finished finished.stop d
    crew_ends = ends_by finished.stop refl
