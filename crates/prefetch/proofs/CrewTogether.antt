-- Windows by several workers, one after the other.
use Rattle.std.proofs.Common.{◌≡◌, ◌⊎◌, ℕ, ◌+◌, ◌-◌, ◌<◌, ◌≤◌, min, List, [], Option, sym, refl, ◌∙◌, subst, ⊎_elim, arith}
use Rattle.std.specs.Map.{keys_of}
use Rattle.fv_io.specs.declared.sink.Sink.{Ghosts}
use Rattle.fv_io.specs.Sink.{IsLater}
use Rattle.fv_plane.specs.declared.format.Info.{Info}
use Rattle.fv_plane.specs.Picture.{Picture}
use Rattle.clip_graph.specs.Plan.{Application}
use Rattle.inst_table.specs.declared.held.Held.{Ghosts as HeldGhosts}
use Rattle.inst_table.specs.declared.place.Place.{Place}
use Rattle.serve_machine.specs.declared.event.Event.{Event}
use Rattle.serve_machine.specs.declared.event.WindowStop.{WindowStop}
use Rattle.serve_machine.specs.Events.{WindowEvents}
use Rattle.serve_core.specs.declared.answers.Finished.{Finished}
use Rattle.serve_core.specs.CoreValue.{CoreValue}
use Rattle.serve_core.specs.Runs.{keys_alone}
use Rattle.prefetch.specs.declared.stops.RenderStop.{RenderStop}
use Rattle.prefetch.specs.declared.stops.RenderStop.TheVariants.{Stopped, Write, Memory}
use Rattle.prefetch.specs.Crew.{IsCrewWindow, IsCutCrew, AreOfCrew, AddsCrewWindow, LeavesOut, NextShows}
use Rattle.serve_machine.specs.Journals.{IsWholeWindow, IsCutWindow, IsNext, AreWhole, none, also, AreCrewFirst, AreCrewCut}
use Rattle.prefetch.specs.Windows.{with_window, Keeps, WindowStopped, frames_at, Stays, CrewStops}
use Rattle.prefetch.proofs.RenderLemmas.{Waits, stays_on, put_waiting, waiting_fails, stopped_after, ended_between}

module _ {I : Type 0} (c : CoreValue I) (size : ℕ) where
  abbrev pub IsFirstOf : List WindowEvents → ℕ → Type 0
  IsFirstOf log n = AreCrewFirst c.fixed.plan c.fixed.root c.fixed.capacity c.fixed.workers (keys_of c.table) size (frames_at c.fixed.plan c.fixed.root) log n

  abbrev pub IsCutOf : WindowStop → List WindowEvents → ℕ → Type 0
  IsCutOf why log n = AreCrewCut c.fixed.plan c.fixed.root c.fixed.capacity c.fixed.workers (keys_of c.table) size (frames_at c.fixed.plan c.fixed.root) why log n

  pub none_crew : c.cache ≡ [] → AreOfCrew c size 0 [] c
  none_crew empty = record {
    whole = subst (λ ps. AreWhole c.fixed.plan c.fixed.root c.fixed.capacity c.fixed.workers (keys_of c.table) size (frames_at c.fixed.plan c.fixed.root) [] 0 (keys_alone (keys_of ps))) (sym empty) none;
    places = refl;
  }

  pub first_crew : (n : ℕ) (log : List WindowEvents) (d : CoreValue I) → AreOfCrew c size n log d → IsFirstOf log n
  first_crew n log d so_far = record { left = keys_alone (keys_of d.cache); whole = so_far.whole }

  module _ (holds : I → Option Info) (n : ℕ) (log : List WindowEvents) (d : CoreValue I) (so_far : AreOfCrew c size n log d) (count : ℕ) (less : n < frames_at c.fixed.plan c.fixed.root) (is : count ≡ min size (frames_at c.fixed.plan c.fixed.root - n)) (stays : Stays holds c d) where
    next : (events : List Event) → IsNext c.fixed.plan c.fixed.root c.fixed.capacity c.fixed.workers (keys_of c.table) size (frames_at c.fixed.plan c.fixed.root) n (record { first = n; count = count; events = events })
    next events = record { some = less; first = refl; count = is }

    pub more_crew : (events : List Event) (e : CoreValue I) → IsCrewWindow d n count events e → AreOfCrew c size (n + count) (with_window log n count events) e
    more_crew events e w =
        let whole = subst (λ (z : List Application × ℕ × ℕ × ℕ × List Place). IsWholeWindow z.0 z.1 z.2 z.3 z.4 (keys_alone (keys_of d.cache)) (record { first = n; count = count; events = events }) w.state)
        (λ i. (stays.plan i, stays.root i, stays.capacity i, stays.workers i, so_far.places i)) w.whole in
        record {
          whole = subst (AreWhole c.fixed.plan c.fixed.root c.fixed.capacity c.fixed.workers (keys_of c.table) size (frames_at c.fixed.plan c.fixed.root) (with_window log n count events) (n + count)) w.left (also w.state so_far.whole (next events) whole);
          places = w.places ∙ so_far.places;
        }

    -- the journal of one window more
    pub first_more : (events : List Event) (e : CoreValue I) (longer : List WindowEvents) → longer ≡ with_window log n count events → IsCrewWindow d n count events e → IsFirstOf longer (n + count)
    first_more events e longer is_log w = subst (λ ws. IsFirstOf ws (n + count)) (sym is_log) (first_crew (n + count) (with_window log n count events) e (more_crew events e w))

    -- and of one that was cut short
    pub cut_more : (why : WindowStop) (events : List Event) (longer : List WindowEvents) → longer ≡ with_window log n count events → IsCutCrew d n count why events → IsCutOf why longer n
    cut_more why events longer is_log cut = record {
      whole = log;
      last = record { first = n; count = count; events = events };
      windows_are = is_log;
      left = keys_alone (keys_of d.cache);
      first = so_far.whole;
      next = next events;
      cut = subst (λ (z : List Application × ℕ × ℕ × ℕ × List Place). IsCutWindow z.0 z.1 z.2 z.3 z.4 why (keys_alone (keys_of d.cache)) (record { first = n; count = count; events = events }))
          (λ i. (stays.plan i, stays.root i, stays.capacity i, stays.workers i, so_far.places i)) cut;
    }

  -- why a render stops
  module _ (of : HeldGhosts I) {K : Type 0} (sink : Ghosts K) (old here there : K) (n count : ℕ) (log longer : List WindowEvents) (d e : CoreValue I) (so_far : AreOfCrew c size n log d)
      (less : n < frames_at c.fixed.plan c.fixed.root) (is : count ≡ min size (frames_at c.fixed.plan c.fixed.root - n)) (kept : Keeps of c d) (frames : List (Option Picture)) (w : Waits of c sink old here frames n) (later : IsLater sink old here) where
    pub next_stops : (stop : RenderStop) → NextShows of d n count log longer e sink frames here there stop → CrewStops of c sink old there size longer e stop
    next_stops (Stopped why) s =
        let put = put_waiting of c sink old here there frames n w s.1 in
        stopped_after of c sink old here there d e n count kept log longer why (omega arith) put s.0 (cut_more of.holds n log d so_far count less is kept.stays why s.0.events longer s.0.log_is s.0.cut)
    next_stops Memory s = ended_between of c sink old here there d e n count kept log longer (omega arith) (put_waiting of c sink old here there frames n w s.2) (first_crew n log d so_far) s.0 s.1
    next_stops Write s = ⊎_elim (λ (both : (finished : Finished) × AddsCrewWindow of d n count log longer e finished). whole both.0 both.1) (λ (out : LeavesOut of d n count log longer e). left_out out.0 out.1) s.window
      where
        fails : (m : ℕ) → n ≤ m → m ≤ frames_at c.fixed.plan c.fixed.root → Stays of.holds c e → IsFirstOf longer m → CrewStops of c sink old there size longer e Write
        fails m low most stays first = waiting_fails of c sink old here there frames n w longer e m low most stays later s.failed s.cut first

        whole : (finished : Finished) → AddsCrewWindow of d n count log longer e finished → CrewStops of c sink old there size longer e Write
        whole finished a = fails (n + count) (omega arith) (omega arith) (stays_on of c d e kept.stays a.delivered.keeps.stays) (first_more of.holds n log d so_far count less is kept.stays finished.events.items e longer a.log_is a.whole)

        left_out : longer ≡ log → (e ≡ d) ⊎ ((why : WindowStop) × WindowStopped of d why e) → CrewStops of c sink old there size longer e Write
        left_out same ended =
            let first = subst (λ ws. IsFirstOf ws n) (sym same) (first_crew n log d so_far) in
            ⊎_elim (λ (left : e ≡ d). fails n (omega arith) (omega arith) (subst (Stays of.holds c) (sym left) kept.stays) first)
            (λ (cut : (why : WindowStop) × WindowStopped of d why e). fails n (omega arith) (omega arith) (stays_on of c d e kept.stays cut.1.stays) first) ended
