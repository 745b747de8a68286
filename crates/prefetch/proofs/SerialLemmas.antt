-- A window by one worker, and windows together.
use Rattle.std.proofs.Common.{◌≡◌, ℕ, zero, suc, ◌+◌, ◌-◌, ◌<◌, ◌≤◌, min, true, false, List, [], ◌++◌, length, slice_get, Option, Some, None, Result, Ok, Err, OnOk, IfErr, sym, refl, ap, ◌∙◌, subst, arith, eq-eqb, ne_eqb}
use Rattle.std.specs.Prelude.{replicate}
use Rattle.std.specs.Map.{keys_of}
use Rattle.fv_plane.specs.declared.key.Key.{Key}
use Rattle.fv_plane.specs.Picture.{Picture}
use Rattle.clip_graph.specs.Plan.{Application, IsPlan}
use Rattle.inst_table.specs.declared.held.Held.{Ghosts as HeldGhosts}
use Rattle.serve_machine.specs.declared.event.Event.{Event}
use Rattle.serve_machine.specs.declared.event.WindowStop.{WindowStop}
use Rattle.serve_machine.specs.Events.{names_source, WindowEvents}
use Rattle.serve_machine.specs.SerialRun.{Serial, SerialWindows, serial_window, one_more_window, windows_after, serial_run}
use Rattle.serve_machine.specs.Work.{FailedWork}
use Rattle.serve_core.specs.declared.answers.Finished.{Finished}
use Rattle.serve_core.specs.Calls.{after_begin, after_end}
use Rattle.serve_core.specs.CoreValue.{CoreValue, Fixed}
use Rattle.serve_core.specs.Kept.{leases_out}
use Rattle.serve_core.specs.Runs.{IsRun}
use Rattle.serve_core.specs.Sources.{shape_at}
use Rattle.serve_alone.specs.Alone.{Alone}
use Rattle.serve_alone.specs.Windows.{Fresh, Served, WindowCut}
use Rattle.serve_core.proofs.Tables.{places_kept, none_leased, all_free}
use Rattle.serve_machine.specs.Journals.{AreFirst, AreCut}
use Rattle.prefetch.specs.Windows.{with_window, WindowEnds, frames_at}
use Rattle.prefetch.specs.SerialWindows.{window_of, IsSerialWindow, IsAloneWindow, IsCutSerial, IsAloneCut, AreSerial}
use Rattle.prefetch.proofs.AloneLemmas.{alone_window, alone_cut}
use Rattle.prefetch.proofs.WindowLemmas.{ended_stays, window_delivered, window_stopped}

-- A WINDOW BEGINS

none_at : (n j : ℕ) → j < n → slice_get {X = Option Picture} (replicate n None) j ≡ Some None
none_at zero j less = absurd (omega arith)
none_at (suc n) zero less = refl
none_at (suc n) (suc j) less = none_at n j (omega arith)

false_at : (n : ℕ) → 0 < n → slice_get (replicate n false) 0 ≡ Some false
false_at zero less = absurd (omega arith)
false_at (suc n) less = refl

module _ {I : Type 0} where
  pub begun_alone : (c c1 : CoreValue I) (first count : ℕ) → IsPlan c.fixed.plan → 0 < c.fixed.workers → 0 < count → leases_out c.table ≡ 0 → c1 ≡ after_begin c first count → Alone c.fixed.plan c1
  begun_alone c c1 first count plan some more unlent is = subst (Alone c.fixed.plan) (sym is) (record { plan_is = refl; is_plan = plan; worker = some; window = more; running = refl; free = all_free c.table unlent })

  pub begun_fresh : (c c1 : CoreValue I) (first count : ℕ) → c.fixed.root < length c.fixed.plan → 0 < c.fixed.workers → first + count ≤ frames_at c.fixed.plan c.fixed.root → c.claims ≡ [] → c1 ≡ after_begin c first count → Fresh c.fixed.plan c1
  begun_fresh c c1 first count root some numbers unclaimed is = subst (Fresh c.fixed.plan) (sym is) (record {
    ready = record { root = root; numbers = numbers; claims = unclaimed; unfailed = false_at c.fixed.workers some };
    untaken = refl;
    undelivered = λ j less. none_at count j less;
  })

-- AND ENDS

module _ {I : Type 0} (of : HeldGhosts I) where
  pub ends_idle : (plan : List Application) (c1 c2 : CoreValue I) (count : ℕ) (r : Result (Unit {0}) WindowStop) → OnOk r (Served of plan c1 count c2) → IfErr r (λ why. WindowCut of plan c1 why c2) → (c2.claims ≡ []) × (leases_out c2.table ≡ 0)
  ends_idle plan c1 c2 count (Ok u) ok err = (ok.claims, none_leased c2.table ok.free)
  ends_idle plan c1 c2 count (Err why) ok err = (err.claims, none_leased c2.table err.free)

  module _ (c c1 c2 d : CoreValue I) (first count : ℕ) (plan : IsPlan c.fixed.plan) (root : c.fixed.root < length c.fixed.plan) (more : 0 < count) (begins : c1 ≡ after_begin c first count) (ends_it : d ≡ after_end c2) (run : 0 < c2.fixed.count → IsRun c2) where
    pub window_ends : (r : Result (Unit {0}) WindowStop) (finished : Finished) → OnOk r (Served of c.fixed.plan c1 count c2) → IfErr r (λ why. WindowCut of c.fixed.plan c1 why c2)
        → finished.frames.items ≡ c2.outputs.frames → finished.events.items ≡ c2.journal → finished.stop ≡ c2.stop → length finished.frames.items ≡ c2.fixed.count
        → ((j : ℕ) (x : Picture) → slice_get finished.frames.items j ≡ Some (Some x) → x.shape ≡ shape_at c2.fixed.plan c2.fixed.root)
        → WindowEnds of c (IsAloneWindow c first count) (IsAloneCut c first count) first count finished finished.stop d
    window_ends (Ok u) finished ok err frames events stop size shapes =
        let running : finished.stop ≡ None = stop ∙ ok.stop ∙ ap (λ (z : CoreValue I). z.stop) begins in
        let same : serial_window c.fixed.plan c1.fixed.root c1.fixed.capacity (keys_of c1.cache) c1.fixed.first count ≡ window_of c first count = ap (λ (z : CoreValue I). serial_window c.fixed.plan z.fixed.root z.fixed.capacity (keys_of z.cache) z.fixed.first count) begins in
        let stays = ended_stays of c c1 c2 d first count plan begins ok.fixed ends_it ok.claims ok.free ok.held in
        let fixed : c2.fixed ≡ (after_begin c first count).fixed = ok.fixed ∙ ap (λ (z : CoreValue I). z.fixed) begins in
        let places = places_kept of.holds c1.table c2.table ok.held ∙ ap (λ (z : CoreValue I). keys_of z.table) begins in
        let made : finished.events.items ≡ (window_of c first count).events
        = events ∙ (ok.journal ∙ (ap (λ (z : CoreValue I). z.journal ++ (serial_window c.fixed.plan c1.fixed.root c1.fixed.capacity (keys_of c1.cache) c1.fixed.first count).events) begins ∙ ap (λ (s : Serial). s.events) same)) in
        let now = run (subst (λ (z : Fixed). 0 < z.count) (sym fixed) more) in
        subst (λ s. WindowEnds of c (IsAloneWindow c first count) (IsAloneCut c first count) first count finished s d) (sym running) (
          window_delivered of c c1 c2 d first count plan begins ok.fixed ends_it finished stays (λ book numbers s. (ok.right book numbers s).0) frames size shapes ok.steady ok.delivered,
          record {
            serial = record { events_are = made; keys_are = ap (λ (z : CoreValue I). keys_of z.cache) ends_it ∙ (ok.keys ∙ ap (λ (s : Serial). s.keys) same) };
            crew = alone_window c c2 d first count plan root fixed places ends_it now finished.events.items events made (sym stop ∙ running) ok.delivered;
          },
        )
    window_ends (Err why) finished ok err frames events stop size shapes =
        let stays = ended_stays of c c1 c2 d first count plan begins err.fixed ends_it err.claims err.free err.held in
        let fixed : c2.fixed ≡ (after_begin c first count).fixed = err.fixed ∙ ap (λ (z : CoreValue I). z.fixed) begins in
        let places = places_kept of.holds c1.table c2.table err.held ∙ ap (λ (z : CoreValue I). keys_of z.table) begins in
        let cut = subst (FailedWork c.fixed.plan c.fixed.root 0 why) (sym (events ∙ (err.journal ∙ ap (λ (z : CoreValue I). z.journal ++ err.events) begins))) (subst (λ (z : CoreValue I). FailedWork c.fixed.plan z.fixed.root 0 why err.events) begins err.cut) in
        let now = run (subst (λ (z : Fixed). 0 < z.count) (sym fixed) more) in
        subst (λ s. WindowEnds of c (IsAloneWindow c first count) (IsAloneCut c first count) first count finished s d) (sym (stop ∙ err.stop)) (
          window_stopped of c c1 c2 d first count plan begins err.fixed ends_it why stays err.right err.ended,
          record {
            serial = record { cut = cut; named = err.named };
            crew = alone_cut c c2 d first count plan root fixed places ends_it now finished.events.items events why cut err.stop err.named;
          },
        )

  -- what it leaves of the serial run alone
  pub serial_ends : (c d : CoreValue I) (first count : ℕ) (finished : Finished) (stop : Option WindowStop) → WindowEnds of c (IsAloneWindow c first count) (IsAloneCut c first count) first count finished stop d
      → WindowEnds of c (IsSerialWindow c first count) (IsCutSerial c) first count finished stop d
  serial_ends c d first count finished None w = (w.0, w.1.serial)
  serial_ends c d first count finished (Some why) w = (w.0, w.1.serial)

-- WINDOWS TOGETHER

-- windows past the last change nothing
idle : (plan : List Application) (root capacity size total : ℕ) (keys : List Key) (k m : ℕ) → (windows_after k plan root capacity size total keys).next ≡ total → windows_after (m + k) plan root capacity size total keys ≡ windows_after k plan root capacity size total keys
idle plan root capacity size total keys k zero e = let n : zero + k ≡ k = omega arith in ap (λ z. windows_after z plan root capacity size total keys) n
idle plan root capacity size total keys k (suc m) e =
    let n : suc m + k ≡ suc (m + k) = omega arith in
    let ih = idle plan root capacity size total keys k m e in
    ap (λ z. windows_after z plan root capacity size total keys) n ∙ (ap (one_more_window plan root capacity size total) ih ∙ rw (eq-eqb (windows_after k plan root capacity size total keys).next total e) refl)

whole_run : (plan : List Application) (root capacity size total : ℕ) (keys : List Key) (k : ℕ) → k ≤ total → (windows_after k plan root capacity size total keys).next ≡ total → serial_run plan root capacity size total keys ≡ windows_after k plan root capacity size total keys
whole_run plan root capacity size total keys k le e = let n : total ≡ (total - k) + k = omega arith in ap (λ z. windows_after z plan root capacity size total keys) n ∙ idle plan root capacity size total keys k (total - k) e

module _ {I : Type 0} (c : CoreValue I) (size : ℕ) where
  pub none_serial : AreSerial c size 0 [] c
  none_serial = record { most = 0; few = omega arith; run = refl }

  module _ (n : ℕ) (log : List WindowEvents) (d : CoreValue I) (so_far : AreSerial c size n log d) where
    -- the journal so far
    pub first_serial : c.cache ≡ [] → AreFirst c.fixed.plan c.fixed.root c.fixed.capacity size (frames_at c.fixed.plan c.fixed.root) log n
    first_serial empty =
        let run : windows_after so_far.most c.fixed.plan c.fixed.root c.fixed.capacity size (frames_at c.fixed.plan c.fixed.root) [] ≡ record { windows = log; keys = keys_of d.cache; next = n }
        = ap (λ ps. windows_after so_far.most c.fixed.plan c.fixed.root c.fixed.capacity size (frames_at c.fixed.plan c.fixed.root) (keys_of ps)) (sym empty) ∙ so_far.run in
        record { most = so_far.most; few = so_far.few; windows_are = ap (λ (s : SerialWindows). s.windows) run; next_is = ap (λ (s : SerialWindows). s.next) run }

    -- the whole of it
    pub all_serial : c.cache ≡ [] → n ≡ frames_at c.fixed.plan c.fixed.root → log ≡ (serial_run c.fixed.plan c.fixed.root c.fixed.capacity size (frames_at c.fixed.plan c.fixed.root) []).windows
    all_serial empty all =
        let total = frames_at c.fixed.plan c.fixed.root in
        let first = first_serial empty in
        sym (ap (λ (s : SerialWindows). s.windows) (whole_run c.fixed.plan c.fixed.root c.fixed.capacity size total [] first.most (subst (λ m. first.most ≤ m) all first.few) (first.next_is ∙ all)) ∙ first.windows_are)

  module _ (n : ℕ) (log : List WindowEvents) (d : CoreValue I) (so_far : AreSerial c size n log d) where
    module _ (count : ℕ) (some : 0 < size) (less : n < frames_at c.fixed.plan c.fixed.root) (is : count ≡ min size (frames_at c.fixed.plan c.fixed.root - n)) (stays : (d.fixed.plan ≡ c.fixed.plan) × (d.fixed.root ≡ c.fixed.root) × (d.fixed.capacity ≡ c.fixed.capacity)) where
      pub more_serial : (events : List Event) (e : CoreValue I) → IsSerialWindow d n count events e → AreSerial c size (n + count) (with_window log n count events) e
      more_serial events e whole =
          let inner : Serial = serial_window c.fixed.plan c.fixed.root c.fixed.capacity (keys_of d.cache) n count in
          let step : window_of d n count ≡ inner = ap (λ (z : List Application × ℕ × ℕ). serial_window z.0 z.1 z.2 (keys_of d.cache) n count) (λ i. (stays.0 i, stays.1 i, stays.2 i)) in
          let events_are : events ≡ inner.events = whole.events_are ∙ ap (λ (s : Serial). s.events) step in
          let keys_are : keys_of e.cache ≡ inner.keys = whole.keys_are ∙ ap (λ (s : Serial). s.keys) step in
          let one : one_more_window c.fixed.plan c.fixed.root c.fixed.capacity size (frames_at c.fixed.plan c.fixed.root) (record { windows = log; keys = keys_of d.cache; next = n }) ≡ record { windows = with_window log n count inner.events; keys = inner.keys; next = n + count }
          = rw (ne_eqb n (frames_at c.fixed.plan c.fixed.root) (λ q. omega arith)) (ap (λ m. let v = serial_window c.fixed.plan c.fixed.root c.fixed.capacity (keys_of d.cache) n m in record { windows = with_window log n m v.events; keys = v.keys; next = n + m }) (sym is)) in
          record {
            most = suc so_far.most;
            few = (let few = so_far.few in omega arith);
            run = ap (one_more_window c.fixed.plan c.fixed.root c.fixed.capacity size (frames_at c.fixed.plan c.fixed.root)) so_far.run ∙ (one ∙ (λ i. record { windows = with_window log n count (sym events_are i); keys = sym keys_are i; next = n + count }));
          }

      -- the journal of one window more
      pub first_more : (events : List Event) (e : CoreValue I) (longer : List WindowEvents) → longer ≡ with_window log n count events → IsSerialWindow d n count events e → c.cache ≡ []
          → AreFirst c.fixed.plan c.fixed.root c.fixed.capacity size (frames_at c.fixed.plan c.fixed.root) longer (n + count)
      first_more events e longer is_log whole empty =
          subst (λ ws. AreFirst c.fixed.plan c.fixed.root c.fixed.capacity size (frames_at c.fixed.plan c.fixed.root) ws (n + count)) (sym is_log) (first_serial (n + count) (with_window log n count events) e (more_serial events e whole) empty)

      -- and of one that was cut short
      pub cut_more : (why : WindowStop) (events : List Event) (longer : List WindowEvents) → longer ≡ with_window log n count events → IsCutSerial d why events → c.cache ≡ [] → AreCut c.fixed.plan c.fixed.root c.fixed.capacity size (frames_at c.fixed.plan c.fixed.root) why longer n
      cut_more why events longer is_log cut empty = record {
        whole = log;
        last = record { first = n; count = count; events = events };
        windows_are = is_log;
        first = first_serial n log d so_far empty;
        cut = record {
          some = less;
          first = refl;
          count = is;
          cut = subst (λ (z : List Application × ℕ). FailedWork z.0 z.1 0 why events) (λ i. (stays.0 i, stays.1 i)) cut.cut;
          named = subst (λ pl. names_source pl why ≡ true) stays.0 cut.named;
        };
      }
