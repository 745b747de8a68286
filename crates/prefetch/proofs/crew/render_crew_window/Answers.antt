-- The window that ended, and what was put before it.
use Rattle.std.proofs.Common.{◌≡◌, ◌∙◌, ap, map, inl, inr, Option, Some, None, Result, Ok, Err, false, refl}
use Rattle.std.specs.Option.{is_some}
use Rattle.std.specs.Result.{is_err}
use Rattle.fv_io.specs.declared.source.Failed.{Failed}
use Rattle.serve_machine.specs.Events.{windows_of, window_of}
use Rattle.serve_machine.specs.declared.event.WindowStop.{WindowStop}
use Rattle.prefetch.specs.Crew.{IsCrewWindow, IsCutCrew}
use Rattle.prefetch.specs.Windows.{with_window, PutsFrames, AddsWindow}
use Rattle.prefetch.proofs.PutLemmas.{puts_not}
use Rattle.prefetch.proofs.RenderLemmas.{ends_early, adds_window}
use Rattle.prefetch.proofs.crew.render_crew_window.Given.{Over}
use Rattle.prefetch.proofs.crew.render_crew_window.Goals as goal
use Rattle.prefetch.proofs.crew.render_crew_window.Goals.{After-keep_events, else-is_err-via-then-is_err+else-is_some, else-is_err-via-else-is_err}

no_stop : (stop : Option WindowStop) → false ≡ is_some stop → stop ≡ None
no_stop None h = cc
no_stop (Some why) h = absurd (cc)

not_both : (put : Result (Unit {0}) Failed) (why : Failed) → false ≡ is_err put → put ≡ Err why → ⊥
not_both (Ok u) why h is = cc
not_both (Err e) why h is = cc

log_is : (g : Over) (c : After-keep_events g) → windows_of c.keep_events.new.journal ≡ with_window (windows_of c.args.journal.now) c.args.first c.args.count c.in-Ok-ended.finished.events.items
log_is g c = c.keep_events.ensures ∙ ap (λ items. with_window (map window_of items) c.args.first c.args.count c.in-Ok-ended.finished.events.items) c.reserve.ensures.items

adds : (g : Over) (c : After-keep_events g) → c.in-Ok-ended.finished.stop ≡ None
    → AddsWindow g.I.Held c.args.core (IsCrewWindow c.args.core c.args.first c.args.count) (IsCutCrew c.args.core c.args.first c.args.count) c.args.first c.args.count
    (windows_of c.args.journal.now) (windows_of c.keep_events.new.journal) c.run_crew_window-core.result.0 c.in-Ok-ended.finished
adds g c none =
    let core = c.args.core in
    adds_window g.I.Held core (IsCrewWindow core c.args.first c.args.count) (IsCutCrew core c.args.first c.args.count) c.args.first c.args.count c.run_crew_window-core.result.0 c.in-Ok-ended.finished (rw c.in-Ok-ended.is at c.run_crew_window-core.ensures.ends)
    (windows_of c.args.journal.now) (windows_of c.keep_events.new.journal) (log_is g c) none

pub returns-then-is_some-clause-stop : goal.returns-then-is_some-clause-stop
returns-then-is_some-clause-stop g c =
    let core = c.args.core in
    let not = puts_not g.K.Sink c.args.out.now c.run_crew_window-core.new.out c.args.frames.items c.run_crew_window-core.result.2 c.if-is_err.ensures.value c.run_crew_window-core.ensures.put in
    let early = ends_early g.I.Held core (IsCrewWindow core c.args.first c.args.count) (IsCutCrew core c.args.first c.args.count) c.args.first c.args.count c.run_crew_window-core.result.0
    c.in-Ok-ended.finished (rw c.in-Ok-ended.is at c.run_crew_window-core.ensures.ends) c.if-is_some.ensures in
    record { failed = not.0; cut = not.1; window = inr (ap (map window_of) c.reserve.ensures.items, inr early) }

pub returns-in-Err-default-clause-stop : goal.returns-in-Err-default-clause-stop
returns-in-Err-default-clause-stop g c =
    let at = goal.at.returns-in-Err-default-clause-stop g c in
    let not : PutsFrames g.K.Sink c.args.out.now c.run_crew_window-core.new.out c.args.frames.items (Err c.in-Err-default.field-0-0) = rw c.in-Err-default.is-0 at c.run_crew_window-core.ensures.put in
    let none : c.in-Ok-ended.finished.stop ≡ None = elim c.else-is_err.branch [
      | else-is_err-via-then-is_err+else-is_some w ↦ no_stop c.in-Ok-ended.finished.stop w.if-is_some.ensures
      | else-is_err-via-else-is_err w ↦ absurd (not_both c.run_crew_window-core.result.2 c.in-Err-default.field-0-0 w.if-is_err.ensures.value c.in-Err-default.is-0)
    ] in
    record { failed = not.failed; cut = not.cut; window = inl (c.in-Ok-ended.finished, adds g at.After-keep_events none) }

pub returns-in-Ok-None-clause-ok : goal.returns-in-Ok-None-clause-ok
returns-in-Ok-None-clause-ok g c =
    let at = goal.at.returns-in-Ok-None-clause-ok g c in
    let put : PutsFrames g.K.Sink c.args.out.now c.run_crew_window-core.new.out c.args.frames.items (Ok c.in-Ok-None.field-0-0) = rw c.in-Ok-None.is-0 at c.run_crew_window-core.ensures.put in
    record {
      finished = c.in-Ok-ended.finished;
      adds = adds g at.After-keep_events c.in-Ok-None.is-1;
      frames_are = refl;
      put = put.put;
    }
