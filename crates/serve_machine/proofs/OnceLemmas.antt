-- Over the whole windows of a crew each frame is made once.
use Rattle.std.proofs.Common.{◌≡◌, ◌⊎◌, ℕ, ◌+◌, ◌<◌, ◌≤◌, ◌==◌, Bool, true, false, ◌&&◌, List, [], ◌∷◌, ◌++◌, length, Some, None, sym, refl, ap, ◌∙◌, subst, inl, inr, ⊎_elim, arith, eq-eqb, append_assoc}
use Rattle.std.specs.Prelude.{nat_lt}
use Rattle.std.specs.List.{AllByRecursion, IsDistinct}
use Rattle.std.proofs.lemmas.Bool.{eqb-true}
use Rattle.std.proofs.lemmas.List.{append-nil}
use borrow.Author.Tests.{ltb-true}
use Rattle.fv_plane.specs.declared.key.Key.{Key}
use Rattle.clip_graph.specs.Plan.{Application}
use Rattle.inst_table.specs.declared.place.Place.{Place}
use Rattle.inst_table.proofs.CallerLemmas.{test}
use Rattle.serve_machine.specs.declared.event.Event.{Event}
use Rattle.serve_machine.specs.declared.event.Event.TheVariants.{Hit, Claim, Enter, Leave, Evict, Publish, Abandon, Take, Deliver, Fail}
use Rattle.serve_machine.specs.declared.event.WindowStop.{WindowStop}
use Rattle.serve_machine.specs.Events.{worker_of, own_events, WindowEvents}
use Rattle.serve_machine.specs.Work.{FailedWork, failed, IsWork}
use Rattle.serve_machine.proofs.KeyLemmas.{left_true, right_true}
use Rattle.serve_machine.specs.Law.{start_of}
use Rattle.serve_machine.specs.Machine.{Machine, meets, allowed, change, replay, State, is_running}
use Rattle.serve_machine.specs.Journals.{in_window, after_window, AreRuns, done, next, all_events, is_claim, has_claimed, IsReached, TakesBelow, KeyCache, crew_machine, IsWholeWindow, IsCutWindow, IsNext, AreWhole, none, also, AreCrewCut, CrewsMakeOnce, CutCrewsMakeOnce}
use Rattle.serve_machine.proofs.ReachLemmas.{first_below, outputs_below, work_reaches, cut_work_reaches}
use Rattle.serve_machine.proofs.RenderLemmas.{makes_once}
use Rattle.serve_machine.proofs.TruthLemmas.{either, or_true}

-- RUNS

one_run_more : {F : Type 0} {m : Machine F} {places : List Place} {cache left : List (Key × F)} {windows : List WindowEvents} (v : WindowEvents) (s : State F) → AreRuns m places cache windows left → after_window m places left v ≡ Some s → AreRuns m places cache (windows ++ v ∷ []) s.cache
one_run_more v s done ran = next s ran done
one_run_more v s (next t first rest) ran = next t first (one_run_more v s rest ran)

module _ (plan : List Application) (root capacity workers : ℕ) (places : List Place) (size total : ℕ) where
  are_runs : {windows : List WindowEvents} {n : ℕ} {left : KeyCache} → AreWhole plan root capacity workers places size total windows n left → AreRuns (crew_machine plan root capacity workers places) places [] windows left
  are_runs none = done
  are_runs (also {window = window} s before is whole) = one_run_more window s (are_runs before) whole.runs

-- CLAIMS

claimed_in : (k : Key) (es fs : List Event) → has_claimed k (es ++ fs) ≡ true → (has_claimed k es ≡ true) ⊎ (has_claimed k fs ≡ true)
claimed_in k [] fs h = inr h
claimed_in k (e ∷ es) fs h = ⊎_elim
    (λ (first : is_claim k e ≡ true). inl (or_true (is_claim k e) (has_claimed k es) (inl first)))
    (λ (later : has_claimed k (es ++ fs) ≡ true). ⊎_elim
    (λ (here : has_claimed k es ≡ true). inl (or_true (is_claim k e) (has_claimed k es) (inr here)))
    (λ (there : has_claimed k fs ≡ true). inr there) (claimed_in k es fs later)) (either (is_claim k e) (has_claimed k (es ++ fs)) h)

events_more : (windows : List WindowEvents) (v : WindowEvents) → all_events (windows ++ v ∷ []) ≡ all_events windows ++ v.events
events_more [] v = append-nil v.events
events_more (w ∷ ws) v = ap (λ l. w.events ++ l) (events_more ws v) ∙ sym (append_assoc w.events (all_events ws) v.events)

module _ {F : Type 0} (m : Machine F) where
  -- a claim is one of a worker's own
  claimer : (k : Key) (es : List Event) (s t : State F) → replay m s es ≡ Some t → has_claimed k es ≡ true → (w : ℕ) × (w < m.fixed.workers) × (has_claimed k (own_events w es) ≡ true)
  claimer k [] s t ran h = absurd (cc)
  claimer k (e ∷ es) s t ran h = ⊎_elim
      (λ (ok : allowed m s e ≡ true). ⊎_elim
      (λ (first : is_claim k e ≡ true). (worker_of e, ltb-true (worker_of e) m.fixed.workers (left_true _ _ (right_true _ _ ok)), rw (eq-eqb (worker_of e) (worker_of e) refl) (or_true (is_claim k e) (has_claimed k (own_events (worker_of e) es)) (inl first))))
      (λ (later : has_claimed k es ≡ true). let ih = claimer k es (change m s e) t (rw ok at ran) later in (ih.0, ih.1, over ih.0 ih.2)) (either (is_claim k e) (has_claimed k es) h))
      (λ (bad : allowed m s e ≡ false). let none' : None ≡ Some t = rw bad at ran in absurd (cc)) (test (allowed m s e))
    where
      over : (w : ℕ) → has_claimed k (own_events w es) ≡ true → has_claimed k (own_events w (e ∷ es)) ≡ true
      over w its = ⊎_elim
          (λ (mine : (worker_of e == w) ≡ true). rw mine (or_true (is_claim k e) (has_claimed k (own_events w es)) (inr its)))
          (λ (other : (worker_of e == w) ≡ false). rw other its) (test (worker_of e == w))

-- OUTPUTS

module _ (total : ℕ) where
  own_below : (w : ℕ) (es : List Event) → AllByRecursion (TakesBelow total) es → AllByRecursion (TakesBelow total) (own_events w es)
  own_below w [] all = tt
  own_below w (e ∷ es) all = ⊎_elim
      (λ (mine : (worker_of e == w) ≡ true). rw mine (all.0, own_below w es all.1))
      (λ (other : (worker_of e == w) ≡ false). rw other (own_below w es all.1)) (test (worker_of e == w))

  module _ {F : Type 0} (m : Machine F) (most : m.fixed.first + m.fixed.count ≤ total) where
    taken_below : (s : State F) (e : Event) → meets m s e ≡ true → TakesBelow total e
    taken_below s (Hit w k) met = tt
    taken_below s (Claim w k) met = tt
    taken_below s (Enter w i j) met = tt
    taken_below s (Leave w i j) met = tt
    taken_below s (Evict w k) met = tt
    taken_below s (Publish w k) met = tt
    taken_below s (Abandon w k) met = tt
    taken_below s (Take w n) met =
        let both : (n == m.fixed.first + length s.taken && nat_lt (length s.taken) m.fixed.count) ≡ true = left_true (n == m.fixed.first + length s.taken && nat_lt (length s.taken) m.fixed.count) (is_running s) met in
        let is : n ≡ m.fixed.first + length s.taken = eqb-true n (m.fixed.first + length s.taken) (left_true (n == m.fixed.first + length s.taken) (nat_lt (length s.taken) m.fixed.count) both) in
        let less : length s.taken < m.fixed.count = ltb-true (length s.taken) m.fixed.count (right_true (n == m.fixed.first + length s.taken) (nat_lt (length s.taken) m.fixed.count) both) in
        omega arith
    taken_below s (Deliver w n) met = tt
    taken_below s (Fail w why) met = tt

    run_below : (es : List Event) (s t : State F) → replay m s es ≡ Some t → AllByRecursion (TakesBelow total) es
    run_below [] s t ran = tt
    run_below (e ∷ es) s t ran = ⊎_elim
        (λ (ok : allowed m s e ≡ true). (taken_below s e (right_true _ _ (right_true _ _ ok)), run_below es (change m s e) t (rw ok at ran)))
        (λ (bad : allowed m s e ≡ false). let none' : None ≡ Some t = rw bad at ran in absurd (cc)) (test (allowed m s e))

-- WHAT IS CLAIMED

module _ (plan : List Application) (root capacity workers : ℕ) (places : List Place) (size total : ℕ) where
  window_reaches : (n : ℕ) (cache : KeyCache) (window : WindowEvents) (s : State (Unit {0})) → IsNext plan root capacity workers places size total n window → IsWholeWindow plan root capacity workers places cache window s
      → (k : Key) → has_claimed k window.events ≡ true → IsReached plan root total k
  window_reaches n cache window s is whole k h =
      let m = in_window (crew_machine plan root capacity workers places) cache window in
      let some = is.some in
      let first = is.first in
      let count = is.count in
      let by = claimer m k window.events (start_of m cache places) s whole.runs h in
      let work = whole.work by.0 by.1 in
      work_reaches plan root by.0 total work.0 (own_events by.0 window.events) k work.1
      (outputs_below total work.1 (own_below total by.0 window.events (run_below total m (omega arith) window.events (start_of m cache places) s whole.runs))) by.2

  windows_reach : {windows : List WindowEvents} {n : ℕ} {left : KeyCache} → AreWhole plan root capacity workers places size total windows n left → (k : Key) → has_claimed k (all_events windows) ≡ true → IsReached plan root total k
  windows_reach none k h = absurd (cc)
  windows_reach (also {windows = windows} {window = window} {n = n} {cache = cache} s before is whole) k h = ⊎_elim
      (λ (early : has_claimed k (all_events windows) ≡ true). windows_reach before k early)
      (λ (now : has_claimed k window.events ≡ true). window_reaches n cache window s is whole k now)
      (claimed_in k (all_events windows) window.events (subst (λ es. has_claimed k es ≡ true) (events_more windows window) h))

-- WORK THAT WAS CUT SHORT

module _ (plan : List Application) (root total w : ℕ) (k : Key) where
  -- a failure claims nothing
  failed_reaches : (why : WindowStop) (own : List Event) → FailedWork plan root w why own → AllByRecursion (TakesBelow total) own → has_claimed k own ≡ true → IsReached plan root total k
  failed_reaches why _ (failed {done = so_far} {closing = closing} cut) all h =
      cut_work_reaches plan root w total so_far closing k cut (first_below total so_far (closing ++ Fail w why ∷ []) all)
      (⊎_elim
      (λ (e : has_claimed k (so_far ++ closing) ≡ true). e)
      (λ (e : has_claimed k (Fail w why ∷ []) ≡ true). absurd (cc))
      (claimed_in k (so_far ++ closing) (Fail w why ∷ []) (subst (λ es. has_claimed k es ≡ true) (sym (append_assoc so_far closing (Fail w why ∷ []))) h)))

  any_reaches : (count : ℕ) (journal own : List Event) → IsWork plan root count w journal own → AllByRecursion (TakesBelow total) own → has_claimed k own ≡ true → IsReached plan root total k
  any_reaches count journal own (inl whole) all h = work_reaches plan root w total whole.outputs own k whole.delivered (outputs_below total whole.delivered all) h
  any_reaches count journal own (inr (why, inl it)) all h = failed_reaches why own it all h
  any_reaches count journal own (inr (why, inr it)) all h =
      cut_work_reaches plan root w total (own_events w it.before) (own_events w it.after) k it.cut
      (first_below total (own_events w it.before) (own_events w it.after) (subst (AllByRecursion (TakesBelow total)) it.own_is all)) (subst (λ es. has_claimed k es ≡ true) it.own_is h)

module _ (plan : List Application) (root capacity workers : ℕ) (places : List Place) (size total : ℕ) (why : WindowStop) where
  cut_reaches : (n : ℕ) (cache : KeyCache) (window : WindowEvents) → IsNext plan root capacity workers places size total n window → IsCutWindow plan root capacity workers places why cache window
      → (k : Key) → has_claimed k window.events ≡ true → IsReached plan root total k
  cut_reaches n cache window is cut k h =
      let m = in_window (crew_machine plan root capacity workers places) cache window in
      let some = is.some in
      let first = is.first in
      let count = is.count in
      let by = claimer m k window.events (start_of m cache places) cut.state cut.runs h in
      any_reaches plan root total by.0 k window.count window.events (own_events by.0 window.events) (cut.work by.0 by.1)
      (own_below total by.0 window.events (run_below total m (omega arith) window.events (start_of m cache places) cut.state cut.runs)) by.2

  module _ (windows : List WindowEvents) (n : ℕ) (are : AreCrewCut plan root capacity workers places size total why windows n) where
    all_runs : AreRuns (crew_machine plan root capacity workers places) places [] windows (let cut = are.cut in let s = cut.state in s.cache)
    all_runs = let cut = are.cut in
        subst (λ vs. AreRuns (crew_machine plan root capacity workers places) places [] vs (let s = cut.state in s.cache)) (sym are.windows_are) (one_run_more are.last cut.state (are_runs plan root capacity workers places size total are.first) cut.runs)

    all_reached : (k : Key) → has_claimed k (all_events windows) ≡ true → IsReached plan root total k
    all_reached k h = let last = are.last in ⊎_elim
        (λ (early : has_claimed k (all_events are.whole) ≡ true). windows_reach plan root capacity workers places size total are.first k early)
        (λ (now : has_claimed k last.events ≡ true). cut_reaches n are.left are.last are.next are.cut k now)
        (claimed_in k (all_events are.whole) last.events (subst (λ es. has_claimed k es ≡ true) (ap all_events are.windows_are ∙ events_more are.whole are.last) h))

differ_none : (same : Key → Key → Bool) → IsDistinct same []
unfolding IsDistinct
differ_none same = tt

pub crews_make_once : CrewsMakeOnce
crews_make_once = record {
  once = λ plan root capacity workers size total n places windows left whole quiet k.
      (makes_once (Unit {0})).once (crew_machine plan root capacity workers places) places [] left windows (differ_none _) (omega arith) (are_runs plan root capacity workers places size total whole) quiet k;
  enough = λ plan root capacity workers size total n places windows left keys is_plan few reach whole.
      (makes_once (Unit {0})).enough (crew_machine plan root capacity workers places) places left windows total keys few reach (are_runs plan root capacity workers places size total whole) (windows_reach plan root capacity workers places size total whole);
}

pub cut_crews_make_once : CutCrewsMakeOnce
cut_crews_make_once = record {
  once = λ plan root capacity workers size total n places why windows cut quiet k.
      (makes_once (Unit {0})).once (crew_machine plan root capacity workers places) places [] _ windows (differ_none _) (omega arith) (all_runs plan root capacity workers places size total why windows n cut) quiet k;
  enough = λ plan root capacity workers size total n places why windows keys is_plan few reach cut.
      (makes_once (Unit {0})).enough (crew_machine plan root capacity workers places) places _ windows total keys few reach (all_runs plan root capacity workers places size total why windows n cut) (all_reached plan root capacity workers places size total why windows n cut);
}
